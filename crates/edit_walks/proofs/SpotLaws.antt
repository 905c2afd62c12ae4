-- The walk that looks where a new record goes. Assumes nothing.
use Prim.Native.Nat.{ℕ, ◌+◌, ◌-◌, ◌≤◌, ◌<◌}
use mathlib.Core.Path.{◌≡◌, refl, sym, ap, ◌∙◌}
use mathlib.Core.List.{List, [], ◌∷◌}
use mathlib.Core.Bool.{Bool, true, false, ◌||◌}
use mathlib.Core.Logic.{◌⊎◌, inl, inr, ⊎_elim, by_cases}
use native.Mathlib.Decide.{dec_le}
use native.Mathlib.Omega.{arith}
use lib.ListN.{length}
use lib.Dec.{leb, eqb}
use denote.Enum.Declared.{tag_of}
use borrow.Author.Tests.{le-leb, lt-leb, eq-eqb, ne_eqb}
use Rattle.wire.specs.Pick.{pick}
use Rattle.wire.specs.Bytes.{u32_at}
use Rattle.wire.proofs.PlaceLaws.{placed_number}
use Rattle.record.specs.declared.Cursor.{Cursor}
use Rattle.record.specs.declared.Step.{Step}
use Rattle.record.specs.declared.Step.TheVariants.{Record}
use Rattle.record.specs.Record.{length_at, type_at, record_ok, step_at}
use Rattle.record.specs.Chain.{header_end, records, starts}
use Rattle.record.proofs.ChainLaws.{Stepped, stepped, ok_means, starts_none, starts_record}
use Rattle.record.proofs.SeekLaws.{over}
use Rattle.record.specs.contracts.Step.{the_type}
use Rattle.header.specs.Fields.{checksum_enabled}
use Rattle.bodies.specs.TileRecord.{tile_index}
use Rattle.tile_routes.specs.Ways.{carries}
use Rattle.pieces.specs.Pieces.{piece_at, pieces_of, pieces, free_record, is_free, attach, join_free, cleared, freeing}
use Rattle.pieces.specs.Edits.{takes, place_for, room_for}
use Rattle.pieces.proofs.SplitLaws.{piece_placed, piece_long, piece_type, piece_free}
use Rattle.pieces.proofs.FreeLaws.{free_length, free_is}
use Rattle.pieces.proofs.FreeingLaws.{attach_both, attach_used, attach_twice}
use Rattle.correct.specs.Storing.{freed_of}
use Rattle.edit_walks.specs.declared.Spot.{Spot}
use Rattle.edit_walks.specs.declared.Wanted.TheVariants.{Tile}
use Rattle.edit_walks.specs.Walks.{wanted_by, spot_of}
use Rattle.edit_walks.specs.Runs.{loose_by, fits_run, last_spot}

-- a run that takes n bytes

pub fit_empty : (n g : ℕ) → g ≡ 0 → false ≡ fits_run n g
unfolding fits_run
fit_empty n g e = rw e

pub fit_equal : (n g : ℕ) → (g ≡ 0 → ⊥) → g ≡ n → true ≡ fits_run n g
unfolding fits_run
fit_equal n g z e = rw (ne_eqb g 0 z, eq-eqb g n e)

pub fit_not : (n g : ℕ) → (g ≡ n → ⊥) → g < n + 16 → false ≡ fits_run n g
unfolding fits_run
fit_not n g z h = go (eqb g 0) refl
  where
    go : (b : Bool) → eqb g 0 ≡ b → false ≡ pick (eqb g 0) false (eqb g n || leb (n + 16) g)
    go true e = rw e
    go false e = rw (e, ne_eqb g n z, lt-leb (n + 16) g h)

pub fit_more : (n g : ℕ) → (g ≡ n → ⊥) → n + 16 ≤ g → true ≡ fits_run n g
unfolding fits_run
fit_more n g z h = let y : g ≡ 0 → ⊥ = λ q. omega arith in rw (ne_eqb g 0 y, ne_eqb g n z, le-leb (n + 16) g h)

fit_run : (n g : ℕ) → (g ≡ 0 → ⊥) → fits_run n g ≡ (eqb g n || leb (n + 16) g)
unfolding fits_run
fit_run n g z = rw (ne_eqb g 0 z)

pub last_near : (from x n : ℕ) {g : ℕ} {b : Bool} → g ≡ x - from → b ≡ fits_run n g → b ≡ true → from ≤ x
last_near from x n {g} {b} e f h =
    by_cases (dec_le from x) (λ k. k)
    (λ k. let z : false ≡ true = fit_empty n g (omega arith) ∙ sym f ∙ h in let y : ◌≡◌ {A = ℕ} 0 1 = cc in absurd (omega arith))

pub last_fits : (from x n : ℕ) {g : ℕ} {b : Bool} → g ≡ x - from → b ≡ fits_run n g → b ≡ true → record { at = from; room = g } ≡ last_spot from x n
unfolding last_spot
last_fits from x n e f h = rw (← e, ← f, h)

pub last_end : (from x n : ℕ) {g : ℕ} {b : Bool} → g ≡ x - from → b ≡ fits_run n g → b ≡ false → record { at = x; room = n } ≡ last_spot from x n
unfolding last_spot
last_end from x n e f h = rw (← e, ← f, h)

-- where n bytes go, and how long what takes them is, in one

unfoldable pub spot_for : ℕ → ℕ → List (List ℕ) → Spot
spot_for at n [] = record { at = at; room = n }
spot_for at n (r ∷ rs) = pick (takes n r) (record { at = at; room = length r }) (spot_for (at + length r) n rs)

spot_both : (at n : ℕ) (rs : List (List ℕ)) → spot_for at n rs ≡ record { at = place_for at n rs; room = room_for n rs }
unfolding spot_for place_for room_for
spot_both at n [] = refl
spot_both at n (r ∷ rs) = go (takes n r) refl (spot_both (at + length r) n rs)
  where
    go :
        (b : Bool) → takes n r ≡ b → spot_for (at + length r) n rs ≡ record { at = place_for (at + length r) n rs; room = room_for n rs } →
        spot_for at n (r ∷ rs) ≡ record { at = place_for at n (r ∷ rs); room = room_for n (r ∷ rs) }
    go true e h = rw e
    go false e h = rw e h

spot_is : (s : List ℕ) (i n : ℕ) → spot_for (header_end s) n (freed_of s i) ≡ spot_of s i n
unfolding spot_of
spot_is s i n = spot_both (header_end s) n (freed_of s i)

-- by the first piece

takes_free : (n : ℕ) (r : List ℕ) {g : ℕ} → is_free r ≡ true → length r ≡ g → takes n r ≡ (eqb g n || leb (n + 16) g)
unfolding takes
takes_free n r e f = rw (e, f)

takes_used : (n : ℕ) (r : List ℕ) → is_free r ≡ false → takes n r ≡ false
unfolding takes
takes_used n r e = rw e

module _ (at n : ℕ) (r : List ℕ) (rs : List (List ℕ)) where
  spot_here : takes n r ≡ true → spot_for at n (r ∷ rs) ≡ record { at = at; room = length r }
  unfolding spot_for
  spot_here e = rw e

  spot_past : takes n r ≡ false → spot_for at n (r ∷ rs) ≡ spot_for (at + length r) n rs
  unfolding spot_for
  spot_past e = rw e

-- of two free records of one length, each does for the other

spot_first :
    (at n : ℕ) (a b : List ℕ) (rs : List (List ℕ)) → is_free a ≡ true → is_free b ≡ true → length a ≡ length b → spot_for at n (a ∷ rs) ≡ spot_for at n (b ∷ rs)
unfolding spot_for
spot_first at n a b rs e f g = rw (takes_free n a e g, takes_free n b f refl, g)

spot_alike :
    (at n flag : ℕ) (a b : List ℕ) (rs : List (List ℕ)) → is_free a ≡ true → is_free b ≡ true → length a ≡ length b →
    spot_for at n (attach flag a rs) ≡ spot_for at n (attach flag b rs)
unfolding attach
spot_alike at n flag a b [] e f g = spot_first at n a b [] e f g
spot_alike at n flag a b (q ∷ qs) e f g = go (is_free q) refl
  where
    go : (c : Bool) → is_free q ≡ c → spot_for at n (attach flag a (q ∷ qs)) ≡ spot_for at n (attach flag b (q ∷ qs))
    go true h =
        ap (spot_for at n)
        (attach_both flag a q qs e h ∙ ap (λ (m : ℕ). free_record flag (m + length q) ∷ qs) g ∙ sym (attach_both flag b q qs f h))
    go false h =
        ap (spot_for at n) (attach_used flag a q qs h) ∙ spot_first at n a b (q ∷ qs) e f g ∙ ap (spot_for at n) (sym (attach_used flag b q qs h))

attach_first : (flag : ℕ) (r : List ℕ) (rs : List (List ℕ)) → is_free r ≡ false → attach flag r rs ≡ r ∷ rs
unfolding attach
attach_first flag r [] e = refl
attach_first flag r (q ∷ qs) e = rw e

-- the pieces from a position on, freed and joined

unfoldable piece : List ℕ → ℕ → ℕ → List ℕ
piece s i x = cleared (checksum_enabled s) (λ r. carries r i 0) (piece_at s x)

unfoldable pub ahead : List ℕ → ℕ → ℕ → List (List ℕ)
ahead s i x = freeing (checksum_enabled s) (λ r. carries r i 0) (pieces_of s (starts s x))

ahead_all : (s : List ℕ) (i : ℕ) → ahead s i (header_end s) ≡ freed_of s i
unfolding ahead freed_of pieces records
ahead_all s i = refl

ahead_end : (s : List ℕ) (i x : ℕ) → record_ok s x ≡ false → ahead s i x ≡ []
unfolding ahead freeing join_free pieces_of
ahead_end s i x o = rw (starts_none s x o)

ahead_record :
    (s : List ℕ) (i x : ℕ) → record_ok s x ≡ true → ahead s i x ≡ attach (checksum_enabled s) (piece s i x) (ahead s i (x + length_at s x))
unfolding ahead freeing join_free pieces_of piece
ahead_record s i x o = rw (starts_record s x o)

-- the piece at a record

module _ (s : List ℕ) (i x : ℕ) (o : record_ok s x ≡ true) where
  piece_carries : carries (piece_at s x) i 0 ≡ wanted_by s (Tile i) x
  unfolding carries wanted_by tile_index
  piece_carries =
      let l = (ok_means s x o).long in
      let m = piece_long s x o in
      let e : u32_at s (x + 8) ≡ u32_at (piece_at s x) (0 + 8) = placed_number (piece_placed s x o) 4 8 (omega arith) in
      rw (piece_type s x o, ← e)

  piece_loose : loose_by (type_at s x) (wanted_by s (Tile i) x) ≡ true → (is_free (piece s i x) ≡ true) × (length (piece s i x) ≡ length_at s x)
  unfolding piece cleared loose_by
  piece_loose h = go (carries (piece_at s x) i 0) refl
    where
      go :
          (b : Bool) → carries (piece_at s x) i 0 ≡ b →
          (is_free (piece s i x) ≡ true) × (length (piece s i x) ≡ length_at s x)
      go true e =
          let l = (ok_means s x o).long in
          let m = piece_long s x o in
          rw e (free_is (checksum_enabled s) (length (piece_at s x)) (omega arith), free_length (checksum_enabled s) (length (piece_at s x)) (omega arith) ∙ m)
      go false e = rw e (piece_free s x o ∙ free_only_lem (eqb (type_at s x) 0) (wanted_by s (Tile i) x) h (sym piece_carries ∙ e), piece_long s x o)
        where
          free_only_lem : (a b : Bool) → (a || b) ≡ true → b ≡ false → a ≡ true
          free_only_lem true b p q = refl
          free_only_lem false b p q = sym q ∙ p

  piece_used : loose_by (type_at s x) (wanted_by s (Tile i) x) ≡ false → (is_free (piece s i x) ≡ false) × (length (piece s i x) ≡ length_at s x)
  unfolding piece cleared loose_by
  piece_used h =
      let a = neither (eqb (type_at s x) 0) (wanted_by s (Tile i) x) h in
      rw (piece_carries, a.1) (piece_free s x o ∙ a.0, piece_long s x o)
    where
      neither : (a b : Bool) → (a || b) ≡ false → (a ≡ false) × (b ≡ false)
      neither true b p = let z : ◌≡◌ {A = ℕ} 0 1 = cc in absurd (omega arith)
      neither false b p = (refl, p)

-- with a run of g bytes before them

unfoldable pub run_before : ℕ → ℕ → List (List ℕ) → List (List ℕ)
run_before flag g rs = pick (eqb g 0) rs (attach flag (free_record flag g) rs)

run_none : (flag g : ℕ) (rs : List (List ℕ)) → g ≡ 0 → run_before flag g rs ≡ rs
unfolding run_before
run_none flag g rs e = rw e

run_some : (flag g : ℕ) (rs : List (List ℕ)) → 16 ≤ g → run_before flag g rs ≡ attach flag (free_record flag g) rs
unfolding run_before
run_some flag g rs h = let z : g ≡ 0 → ⊥ = λ q. omega arith in rw (ne_eqb g 0 z)

-- one free record more
module _ (at n flag g : ℕ) (q : List ℕ) (rs : List (List ℕ)) (e : is_free q ≡ true) (l : 16 ≤ length q) where
  run_more : (g ≡ 0) ⊎ (16 ≤ g) → spot_for at n (run_before flag g (attach flag q rs)) ≡ spot_for at n (run_before flag (g + length q) rs)
  run_more h =
      ⊎_elim
      (λ z.
      let y : g + length q ≡ length q = omega arith in
      ap (spot_for at n) (run_none flag g (attach flag q rs) z)
      ∙ spot_alike at n flag q (free_record flag (length q)) rs e (free_is flag (length q) l) (sym (free_length flag (length q) l))
      ∙ ap (spot_for at n) (sym (run_some flag (length q) rs l) ∙ ap (λ (m : ℕ). run_before flag m rs) (sym y)))
      (λ z.
      ap (spot_for at n)
      (run_some flag g (attach flag q rs) z ∙ attach_twice flag (free_record flag g) q rs (free_is flag g z) e l
      ∙ ap (λ (m : ℕ). attach flag (free_record flag (m + length q)) rs) (free_length flag g z)
      ∙ sym (run_some flag (g + length q) rs (omega arith))))
      h

-- a record that is not free: the run is looked at, then what is behind that record
module _ (at n flag g : ℕ) (q : List ℕ) (rs : List (List ℕ)) (e : is_free q ≡ false) where
  run_shut : 16 ≤ g → run_before flag g (attach flag q rs) ≡ free_record flag g ∷ q ∷ rs
  run_shut z =
      run_some flag g (attach flag q rs) z ∙ ap (attach flag (free_record flag g)) (attach_first flag q rs e)
      ∙ attach_used flag (free_record flag g) q rs e

  run_takes : 16 ≤ g → takes n (free_record flag g) ≡ fits_run n g
  run_takes z = takes_free n (free_record flag g) (free_is flag g z) (free_length flag g z) ∙ sym (fit_run n g (λ y. omega arith))

  run_found : (g ≡ 0) ⊎ (16 ≤ g) → fits_run n g ≡ true → spot_for at n (run_before flag g (attach flag q rs)) ≡ record { at = at; room = g }
  run_found h f =
      ⊎_elim
      (λ z. let y : false ≡ true = fit_empty n g z ∙ f in let w : ◌≡◌ {A = ℕ} 0 1 = cc in absurd (omega arith))
      (λ z.
      ap (spot_for at n) (run_shut z) ∙ spot_here at n (free_record flag g) (q ∷ rs) (run_takes z ∙ f)
      ∙ ap (λ (m : ℕ). record { at = at; room = m }) (free_length flag g z))
      h

  run_past :
      (g ≡ 0) ⊎ (16 ≤ g) → fits_run n g ≡ false →
      spot_for at n (run_before flag g (attach flag q rs)) ≡ spot_for (at + g + length q) n rs
  run_past h f =
      ⊎_elim
      (λ z.
      let y : at + length q ≡ at + g + length q = omega arith in
      ap (spot_for at n) (run_none flag g (attach flag q rs) z ∙ attach_first flag q rs e) ∙ spot_past at n q rs (takes_used n q e)
      ∙ ap (λ (m : ℕ). spot_for m n rs) y)
      (λ z.
      ap (spot_for at n) (run_shut z) ∙ spot_past at n (free_record flag g) (q ∷ rs) (run_takes z ∙ f)
      ∙ ap (λ (m : ℕ). spot_for (at + m) n (q ∷ rs)) (free_length flag g z) ∙ spot_past (at + g) n q rs (takes_used n q e))
      h

run_last : (from x n flag : ℕ) → from ≤ x → (x - from ≡ 0) ⊎ (16 ≤ x - from) → spot_for from n (run_before flag (x - from) []) ≡ last_spot from x n
unfolding attach last_spot spot_for
run_last from x n flag h g =
    ⊎_elim
    (λ z.
    let y : from ≡ x = omega arith in
    ap (spot_for from n) (run_none flag (x - from) [] z) ∙ ap (λ (m : ℕ). spot_for m n []) y ∙ last x n ∙ rw (← fit_empty n (x - from) z))
    (λ z.
    let r = free_record flag (x - from) in
    let t : takes n r ≡ fits_run n (x - from) =
    takes_free n r (free_is flag (x - from) z) (free_length flag (x - from) z) ∙ sym (fit_run n (x - from) (λ y. omega arith)) in
    let y : from + (x - from) ≡ x = omega arith in
    ap (spot_for from n) (run_some flag (x - from) [] z) ∙ one from n r ∙ rw (t, free_length flag (x - from) z, y))
    g
  where
    last : (x n : ℕ) → spot_for x n [] ≡ record { at = x; room = n }
    last x n = refl

    one : (at n : ℕ) (r : List ℕ) → spot_for at n (r ∷ []) ≡ pick (takes n r) (record { at = at; room = length r }) (record { at = at + length r; room = n })
    one at n r = refl

-- the walk with its cursor at x and a run open from `from`: what it will find is what is asked

pub record Spotting (s : List ℕ) (i n from x : ℕ) : Type 0 where
  pub order : from ≤ x
  pub near : x ≤ 4294967311 + length s
  pub gap : (x - from ≡ 0) ⊎ (16 ≤ x - from)
  pub same : spot_for from n (run_before (checksum_enabled s) (x - from) (ahead s i x)) ≡ spot_of s i n

spot_from : (s : List ℕ) (i n x : ℕ) {v : Spot} → spot_for x n (ahead s i x) ≡ v → v ≡ spot_of s i n → x ≤ 4294967311 + length s → Spotting s i n x x
spot_from s i n x e f h =
    let z : x - x ≡ 0 = omega arith in
    record {
      order = omega arith;
      near = h;
      gap = inl z;
      same = ap (spot_for x n) (run_none (checksum_enabled s) (x - x) (ahead s i x) z) ∙ e ∙ f;
    }

pub start_is : (s : List ℕ) (x : ℕ) → x ≡ u32_at s 16 → 16 + x ≡ header_end s
unfolding header_end
start_is s x e = rw e

pub spot_begin : (s : List ℕ) (i n x : ℕ) → x ≡ header_end s → x ≤ 4294967311 → Spotting s i n x x
spot_begin s i n x e h =
    spot_from s i n x (ap (λ (y : ℕ). spot_for y n (ahead s i y)) e ∙ ap (spot_for (header_end s) n) (ahead_all s i)) (spot_is s i n) (omega arith)

module _
    {s : List ℕ} {i n from x kind st long : ℕ} {nx : Cursor} {t : Step} {f b : Bool} (w : Spotting s i n from x) (u : t ≡ Record kind st long nx)
    (v : t ≡ step_at s x) (d : f ≡ wanted_by s (Tile i) st) (l : b ≡ loose_by kind f)
  where
    there : Stepped s x kind st long nx
    there = stepped u v

    loose_is : {c : Bool} → b ≡ c → loose_by (type_at s x) (wanted_by s (Tile i) x) ≡ c
    loose_is g =
        let h = there in
        let a : kind ≡ type_at s x = h.kind ∙ ap (type_at s) h.start in
        let y : f ≡ wanted_by s (Tile i) x = d ∙ ap (wanted_by s (Tile i)) h.start in
        rw (← a, ← y) (sym l ∙ g)

    pub spot_loose : b ≡ true → Spotting s i n from nx.at
    spot_loose g =
        let h = there in
        let o = h.ok in
        let p = piece_loose s i x o (loose_is g) in
        let m = h.is.long in
        let q = piece s i x in
        let y : x - from + length q ≡ nx.at - from = omega (arith, w.order, h.next, p.1) in
        record {
          order = omega (arith, w.order, h.next);
          near = omega (arith, h.next, h.is.inside);
          gap = inr (omega (arith, w.order, h.next));
          same =
              ap (λ (j : ℕ). spot_for from n (run_before (checksum_enabled s) j (ahead s i nx.at))) (sym y)
              ∙ ap (λ (j : ℕ). spot_for from n (run_before (checksum_enabled s) (x - from + length q) (ahead s i j))) h.next
              ∙ sym (run_more from n (checksum_enabled s) (x - from) q (ahead s i (x + length_at s x)) p.0 (omega (arith, p.1)) w.gap)
              ∙ ap (λ (rs : List (List ℕ)). spot_for from n (run_before (checksum_enabled s) (x - from) rs)) (sym (ahead_record s i x o)) ∙ w.same;
        }

    module _ {g : ℕ} {c : Bool} (a : b ≡ false) (e : g ≡ st - from) (k : c ≡ fits_run n g) where
      room_is : g ≡ x - from
      room_is = omega (arith, e, there.start)

      now :
          spot_for from n (run_before (checksum_enabled s) (x - from) (attach (checksum_enabled s) (piece s i x) (ahead s i (x + length_at s x))))
          ≡ spot_of s i n
      now =
          ap (λ (rs : List (List ℕ)). spot_for from n (run_before (checksum_enabled s) (x - from) rs)) (sym (ahead_record s i x there.ok))
          ∙ w.same

      fit_is : {y : Bool} → c ≡ y → fits_run n (x - from) ≡ y
      fit_is z = ap (fits_run n) (sym room_is) ∙ sym k ∙ z

      pub spot_found : c ≡ true → record { at = from; room = g } ≡ spot_of s i n
      spot_found z =
          let p = piece_used s i x there.ok (loose_is a) in
          ap (λ (j : ℕ). record { at = from; room = j }) room_is
          ∙ sym (run_found from n (checksum_enabled s) (x - from) (piece s i x) (ahead s i (x + length_at s x)) p.0 w.gap (fit_is z)) ∙ now

      pub spot_used : c ≡ false → Spotting s i n nx.at nx.at
      spot_used z =
          let h = there in
          let p = piece_used s i x h.ok (loose_is a) in
          let y : from + (x - from) + length (piece s i x) ≡ nx.at = omega (arith, w.order, h.next, p.1) in
          spot_from s i n nx.at
          (ap (λ (j : ℕ). spot_for j n (ahead s i nx.at)) (sym y)
          ∙ ap (λ (j : ℕ). spot_for (from + (x - from) + length (piece s i x)) n (ahead s i j)) h.next
          ∙ sym (run_past from n (checksum_enabled s) (x - from) (piece s i x) (ahead s i (x + length_at s x)) p.0 w.gap (fit_is z)))
          now (omega (arith, h.next, h.is.inside))

pub spot_over :
    {s : List ℕ} {i n from x : ℕ} {t : Step} {r : Spot} → Spotting s i n from x → t ≡ step_at s x → (tag_of the_type t ≡ 1) ⊎ (tag_of the_type t ≡ 2) →
    r ≡ last_spot from x n → r ≡ spot_of s i n
spot_over {s} {i} {n} {from} {x} {t} w v g e =
    let o = over s x t v g in
    e ∙ sym (run_last from x n (checksum_enabled s) w.order w.gap)
    ∙ ap (λ (rs : List (List ℕ)). spot_for from n (run_before (checksum_enabled s) (x - from) rs)) (sym (ahead_end s i x o)) ∙ w.same

pub spot_order :
    {s : List ℕ} {i n from x kind st long : ℕ} {nx : Cursor} {t : Step} → Spotting s i n from x → t ≡ Record kind st long nx → t ≡ step_at s x → from ≤ st
spot_order w u v = omega (arith, w.order, (stepped u v).start)
