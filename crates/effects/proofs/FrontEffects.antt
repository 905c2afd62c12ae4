-- What the writes to the header make of a front, with any bytes behind it. Assumes nothing.
use Prim.Native.Nat.{ℕ, ◌+◌, ◌-◌, ◌≤◌, ◌<◌, max}
use mathlib.Core.Path.{◌≡◌, refl, sym, ap, ap₂, ◌∙◌}
use mathlib.Core.List.{List, [], ◌∷◌, ◌++◌}
use mathlib.Core.Logic.{by_cases}
use mathlib.Core.Bool.{Bool, true, false}
use native.Mathlib.Decide.{dec_le}
use native.Mathlib.Omega.{arith}
use native.Mathlib.Nat.{zero-add, add-zero}
use lib.ListN.{length}
use Rattle.wire.specs.Pick.{pick}
use Rattle.wire.specs.Bytes.{part, bytes_of, put, zeros}
use Rattle.wire.proofs.ByteLaws.{part_length, part_out, part_whole, part_split, part_before, bytes_length, zeros_length, zeros_joined}
use Rattle.wire.proofs.PutLaws.{length_put, put_nil}
use Rattle.wire.proofs.PlaceLaws.{put_before}
use Rattle.record.specs.Record.{content_at}
use Rattle.written_records.specs.Pieces.{checksum_for, sealed}
use Rattle.stores.specs.Stores.{Write, run, Fits}
use Rattle.stores.specs.Writes.{one_write, seal_write}
use Rattle.stores.proofs.StoreLaws.{length_run}
use Rattle.correct.specs.FieldWrites.{first_set, set_writes, opened_field_writes, refer_to, closed_field_writes, seal_without, closed_front_writes}
use Rattle.correct.proofs.FieldLaws.{first_most}
use Rattle.effects.proofs.MadeLaws.{run_append}
use Rattle.effects.proofs.LieLaws.{Lie, lie_none, lie_one, lie_append}
use Rattle.effects.proofs.InsideEffects.{one_run}
use Rattle.effects.proofs.SwapLaws.{put_swap, put_cover, middle_first, middle_last}

pub run_none : (d : List ℕ) → run [] d ≡ d
unfolding run
run_none d = refl

-- writes that end in the front leave what is behind it
pub front_run : (ws : List Write) (f r : List ℕ) → Fits (length f) ws → run ws (f ++ r) ≡ run ws f ++ r
unfolding run
front_run [] f r h = refl
front_run (w ∷ ws) f r h =
    let l = length_put f w.at w.bytes in
    ap (run ws) (put_before f r w.at w.bytes h.0) ∙ front_run ws (put f w.at w.bytes) r (rw l h.1)

-- a part ends in the list, or is none
part_ends : (v : List ℕ) (i k : ℕ) → i + length (part v i k) ≤ max i (length v)
part_ends v i k =
    by_cases (dec_le (i + k) (length v)) (λ h. omega (arith, part_length v i k h))
    (λ h. let e : length (part v i k) ≡ 0 = ap length (part_out v i k (omega arith)) in omega arith)

-- bytes put with the byte number p first are put

module _ (at : ℕ) (v : List ℕ) (p : ℕ) where
  pub set_run : (d : List ℕ) → p ≤ length v → at + length v ≤ length d → run (set_writes at v p) d ≡ put d at v
  unfolding set_writes run one_write
  set_run d h k = by_cases (dec_le (p + 1) (length v)) inside outside
    where
      inside : p + 1 ≤ length v → put (put (put d (at + p) (part v p 1)) at (part v 0 p)) (at + (p + 1)) (part v (p + 1) (length v - (p + 1))) ≡ put d at v
      inside g =
          let a = part_length v 0 p (omega arith) in
          let b = part_length v p 1 (omega arith) in
          let n = length v - (p + 1) in
          let c = part_length v (p + 1) n (omega arith) in
          let e : p + 1 + n ≡ length v = omega arith in
          let x : part v 0 (p + 1) ≡ part v 0 p ++ part v p 1 = rw zero-add at (part_split v 0 p 1 (omega arith)) in
          let y : part v 0 (p + 1 + n) ≡ part v 0 (p + 1) ++ part v (p + 1) n = rw zero-add at (part_split v 0 (p + 1) n (omega arith)) in
          let w : part v 0 p ++ part v p 1 ++ part v (p + 1) n ≡ v = sym (y ∙ ap (λ (l : List ℕ). l ++ part v (p + 1) n) x) ∙ ap (part v 0) e ∙ part_whole v in
          middle_first d at (part v 0 p) (part v p 1) (part v (p + 1) n) (at + p) (at + (p + 1)) (omega arith) (omega arith) (omega arith) ∙ ap (put d at) w

      outside : (p + 1 ≤ length v → ⊥) → put (put (put d (at + p) (part v p 1)) at (part v 0 p)) (at + (p + 1)) (part v (p + 1) (length v - (p + 1))) ≡ put d at v
      outside g =
          let e : p ≡ length v = omega (arith, g) in
          rw (part_out v p 1 (omega arith), part_out v (p + 1) (length v - (p + 1)) (omega arith), e, part_whole, put_nil d (at + length v), put_nil (put d at v) (at + (length v + 1)))

  pub set_lies : (n : ℕ) → p ≤ length v → at + length v + 1 ≤ n → Lie 0 n 3 (set_writes at v p)
  unfolding set_writes
  set_lies n h k =
      let m = length v - (p + 1) in
      lie_append
      (lie_append (lie_one 0 n 1 (at + p) (part v p 1) (omega arith) (omega (arith, part_ends v p 1)) (omega arith))
      (lie_one 0 n 1 at (part v 0 p) (omega arith) (omega (arith, part_ends v 0 p)) (omega arith)))
      (lie_one 0 n 1 (at + (p + 1)) (part v (p + 1) m) (omega arith) (omega (arith, part_ends v (p + 1) m)) (omega arith))

-- the fields of opening
module _ (f : List ℕ) (t : ℕ) (h : 288 ≤ length f) where
  pub opened_run : run (opened_field_writes t) f ≡ put (put f 48 (bytes_of 8 t)) 56 (zeros 8)
  unfolding opened_field_writes
  opened_run =
      let v = bytes_of 8 t in
      let l = bytes_length 8 t in
      run_append (set_writes 48 v (first_set v)) (one_write 56 (zeros 8)) f
      ∙ one_run 56 (zeros 8) (run (set_writes 48 v (first_set v)) f)
      ∙ ap (λ (x : List ℕ). put x 56 (zeros 8)) (set_run 48 v (first_set v) f (first_most v) (omega arith))

  pub opened_lies : Lie 0 (length f) 4 (opened_field_writes t)
  unfolding opened_field_writes
  opened_lies =
      let v = bytes_of 8 t in
      let l = bytes_length 8 t in
      let z = zeros_length 8 in
      lie_append (set_lies 48 v (first_set v) (length f) (first_most v) (omega arith)) (lie_one 0 (length f) 1 56 (zeros 8) (omega arith) (omega arith) (omega arith))

-- a reference
module _ (f : List ℕ) (at : ℕ) (there : Bool) (n : ℕ) where
  pub refer_run : run (refer_to at there n) f ≡ pick there (put f at (bytes_of 8 (content_at n))) f
  unfolding refer_to
  refer_run = go there
    where
      go : (b : Bool) → run (pick b (one_write at (bytes_of 8 (content_at n))) []) f ≡ pick b (put f at (bytes_of 8 (content_at n))) f
      go true = one_run at (bytes_of 8 (content_at n)) f
      go false = run_none f

  pub refer_lies : at + 8 ≤ length f → Lie 0 (length f) 1 (refer_to at there n)
  unfolding refer_to
  refer_lies h = go there
    where
      go : (b : Bool) → Lie 0 (length f) 1 (pick b (one_write at (bytes_of 8 (content_at n))) [])
      go true = lie_one 0 (length f) 1 at (bytes_of 8 (content_at n)) (omega arith) (omega (arith, bytes_length 8 (content_at n))) (omega arith)
      go false = lie_none 0 (length f) 1

-- the checksum, over the front's own bytes
module _ (flag : ℕ) (f : List ℕ) (m : ℕ) (h : 16 + m ≤ length f) (k : 4 ≤ m) where
  pub seal_within : (r : List ℕ) → seal_write flag 16 m (f ++ r) ≡ seal_write flag 16 m f
  unfolding seal_write
  seal_within r = rw (part_before f r 16 (m - 4) (omega arith))

  pub seal_is : (r : List ℕ) → run (seal_write flag 16 m f) r ≡ put r (16 + (m - 4)) (bytes_of 4 (checksum_for flag (part f 16 (m - 4))))
  unfolding seal_write
  seal_is r = one_run _ _ r

  pub seal_run : run (seal_write flag 16 m f) f ≡ sealed flag f 16 m
  unfolding sealed
  seal_run = seal_is f

  pub seal_lies : Lie 0 (length f) 1 (seal_write flag 16 m f)
  unfolding seal_write
  seal_lies =
      let x = checksum_for flag (part f 16 (m - 4)) in
      lie_one 0 (length f) 1 (16 + (m - 4)) (bytes_of 4 x) (omega arith) (omega (arith, bytes_length 4 x)) (omega arith)

-- closing: the fields, the checksum of the header with the opened time zero, and the last byte of it
module _ (flag t : ℕ) (there : Bool) (n p : ℕ) (f : List ℕ) (end : ℕ) (e : length f ≡ end) (h : 288 ≤ length f) (g : p < 8) where
  -- all fields but the opened time
  abbrev set : List ℕ
  set = pick there (put (put f 40 (bytes_of 8 t)) 56 (bytes_of 8 (content_at n))) (put f 40 (bytes_of 8 t))

  set_long : length set ≡ length f
  set_long = go there
    where
      go : (b : Bool) → length (pick b (put (put f 40 (bytes_of 8 t)) 56 (bytes_of 8 (content_at n))) (put f 40 (bytes_of 8 t))) ≡ length f
      go true = length_put (put f 40 (bytes_of 8 t)) 56 (bytes_of 8 (content_at n)) ∙ length_put f 40 (bytes_of 8 t)
      go false = length_put f 40 (bytes_of 8 t)

  -- and that but for one byte
  abbrev most : List ℕ
  most = put (put set 48 (zeros p)) (48 + (p + 1)) (zeros (7 - p))

  most_long : length most ≡ length f
  most_long = length_put (put set 48 (zeros p)) (48 + (p + 1)) (zeros (7 - p)) ∙ length_put set 48 (zeros p) ∙ set_long

  fields_run : run (closed_field_writes t there n p) f ≡ most
  unfolding closed_field_writes
  fields_run =
      let a = one_write 40 (bytes_of 8 t) in
      let b = refer_to 56 there n in
      let c = one_write 48 (zeros p) in
      let d = one_write (48 + (p + 1)) (zeros (7 - p)) in
      run_append (a ++ b ++ c) d f ∙ one_run (48 + (p + 1)) (zeros (7 - p)) (run (a ++ b ++ c) f)
      ∙ ap (λ (x : List ℕ). put x (48 + (p + 1)) (zeros (7 - p)))
      (run_append (a ++ b) c f ∙ one_run 48 (zeros p) (run (a ++ b) f)
      ∙ ap (λ (x : List ℕ). put x 48 (zeros p))
      (run_append a b f ∙ refer_run (run a f) 56 there n
      ∙ ap (λ (x : List ℕ). pick there (put x 56 (bytes_of 8 (content_at n))) x) (one_run 40 (bytes_of 8 t) f)))

  abbrev all : List ℕ
  all = put set 48 (zeros 8)

  -- the opened time zero, whichever way
  covered : put most 48 (zeros 8) ≡ all
  covered =
      let a = zeros_length 8 in
      let b = zeros_length p in
      let c = zeros_length (7 - p) in
      let l = set_long in
      let k = length_put set 48 (zeros p) in
      put_cover (put set 48 (zeros p)) 48 (p + 1) (zeros (7 - p)) (zeros 8) (omega arith) (omega arith)
      ∙ ap (λ (i : ℕ). put (put set i (zeros p)) 48 (zeros 8)) (sym (add-zero 48)) ∙ put_cover set 48 0 (zeros p) (zeros 8) (omega arith) (omega arith)

  last : put most (48 + p) (zeros 1) ≡ all
  last =
      let b = zeros_length p in
      let c = zeros_length (7 - p) in
      let d = zeros_length 1 in
      let l = set_long in
      let n : p + 1 + (7 - p) ≡ 8 = omega arith in
      let z : zeros p ++ zeros 1 ++ zeros (7 - p) ≡ zeros 8 =
      ap (λ (x : List ℕ). x ++ zeros (7 - p)) (sym (zeros_joined p 1)) ∙ sym (zeros_joined (p + 1) (7 - p)) ∙ ap zeros n in
      middle_last set 48 (zeros p) (zeros 1) (zeros (7 - p)) (48 + p) (48 + (p + 1)) (omega arith) (omega arith) (omega arith) ∙ ap (put set 48) z

  -- the front as it is defined
  abbrev made : List ℕ
  made = pick there (put (put (put f 40 (bytes_of 8 t)) 48 (zeros 8)) 56 (bytes_of 8 (content_at n))) (put (put f 40 (bytes_of 8 t)) 48 (zeros 8))

  all_made : all ≡ made
  all_made = go there
    where
      x : List ℕ
      x = put f 40 (bytes_of 8 t)

      go : (b : Bool) → put (pick b (put x 56 (bytes_of 8 (content_at n))) x) 48 (zeros 8) ≡ pick b (put (put x 48 (zeros 8)) 56 (bytes_of 8 (content_at n))) (put x 48 (zeros 8))
      go true =
          let l = length_put f 40 (bytes_of 8 t) in
          put_swap x 48 56 (zeros 8) (bytes_of 8 (content_at n)) (omega (arith, zeros_length 8)) (omega (arith, bytes_length 8 (content_at n)))
      go false = refl

  all_long : length all ≡ length f
  all_long = length_put set 48 (zeros 8) ∙ set_long

  pub closed_run : run (closed_front_writes flag end t there n p f) f ≡ sealed flag made 16 (end - 16)
  unfolding closed_front_writes seal_without sealed
  closed_run =
      let m = end - 16 in
      let a = closed_field_writes t there n p in
      let x = put (run a f) 48 (zeros 8) in
      let b = seal_write flag 16 m x in
      let c = one_write (48 + p) (zeros 1) in
      let o : x ≡ all = ap (λ (y : List ℕ). put y 48 (zeros 8)) fields_run ∙ covered in
      let v = bytes_of 4 (checksum_for flag (part all 16 (m - 4))) in
      let i : length all ≡ end = all_long ∙ e in
      let k : length most ≡ length f = most_long in
      let w : run b (run a f) ≡ put most (16 + (m - 4)) v =
      ap₂ (λ (y z : List ℕ). run (seal_write flag 16 m y) z) o fields_run ∙ seal_is flag all m (omega arith) (omega arith) most in
      run_append (a ++ b) c f ∙ one_run (48 + p) (zeros 1) (run (a ++ b) f)
      ∙ ap (λ (y : List ℕ). put y (48 + p) (zeros 1)) (run_append a b f ∙ w)
      ∙ put_swap most (48 + p) (16 + (m - 4)) (zeros 1) v (omega (arith, zeros_length 1))
      (omega (arith, bytes_length 4 (checksum_for flag (part all 16 (m - 4)))))
      ∙ ap (λ (y : List ℕ). put y (16 + (m - 4)) v) last
      ∙ ap (λ (y : List ℕ). put y (16 + (m - 4)) (bytes_of 4 (checksum_for flag (part y 16 (m - 4))))) all_made

  fields_lie : Lie 0 (length f) 4 (closed_field_writes t there n p)
  unfolding closed_field_writes
  fields_lie =
      let o = length f in
      lie_append
      (lie_append
      (lie_append (lie_one 0 o 1 40 (bytes_of 8 t) (omega arith) (omega (arith, bytes_length 8 t)) (omega arith)) (refer_lies f 56 there n (omega arith)))
      (lie_one 0 o 1 48 (zeros p) (omega arith) (omega (arith, zeros_length p)) (omega arith)))
      (lie_one 0 o 1 (48 + (p + 1)) (zeros (7 - p)) (omega arith) (omega (arith, zeros_length (7 - p))) (omega arith))

  pub closed_lies : Lie 0 (length f) 6 (closed_front_writes flag end t there n p f)
  unfolding closed_front_writes seal_without
  closed_lies =
      let o = length f in
      let x = put (run (closed_field_writes t there n p) f) 48 (zeros 8) in
      let l : length x ≡ o = length_put (run (closed_field_writes t there n p) f) 48 (zeros 8) ∙ length_run (closed_field_writes t there n p) f in
      lie_append (lie_append fields_lie (rw l at (seal_lies flag x (end - 16) (omega arith) (omega arith))))
      (lie_one 0 o 1 (48 + p) (zeros 1) (omega arith) (omega (arith, zeros_length 1)) (omega arith))

  -- the same with bytes behind the front
  pub closed_within : (r : List ℕ) → closed_front_writes flag end t there n p (f ++ r) ≡ closed_front_writes flag end t there n p f
  unfolding closed_front_writes seal_without
  closed_within r =
      let a = closed_field_writes t there n p in
      let x = run a f in
      let l : length x ≡ length f = length_run a f in
      let y : put (run a (f ++ r)) 48 (zeros 8) ≡ put x 48 (zeros 8) ++ r =
      ap (λ (z : List ℕ). put z 48 (zeros 8)) (front_run a f r fields_lie.fits) ∙ put_before x r 48 (zeros 8) (omega (arith, zeros_length 8)) in
      let k : length (put x 48 (zeros 8)) ≡ length f = length_put x 48 (zeros 8) ∙ l in
      let w : seal_write flag 16 (end - 16) (put (run a (f ++ r)) 48 (zeros 8)) ≡ seal_write flag 16 (end - 16) (put x 48 (zeros 8)) =
      ap (seal_write flag 16 (end - 16)) y ∙ seal_within flag (put x 48 (zeros 8)) (end - 16) (omega arith) (omega arith) r in
      ap (λ (ws : List Write). a ++ ws ++ one_write (48 + p) (zeros 1)) w
