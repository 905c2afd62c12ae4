-- The byte stores of squeezing make the page that it is to make. Assumes nothing.
use Prim.Native.Nat.{ℕ, ◌+◌, ◌-◌, ◌≤◌}
use mathlib.Core.Path.{◌≡◌, refl, sym, ap, ◌∙◌}
use mathlib.Core.List.{List, ◌++◌, append_assoc}
use mathlib.Core.Bool.{true}
use native.Mathlib.Omega.{arith}
use lib.ListN.{length, take, drop, length-append}
use lib.Seq.{take_at}
use Rattle.wire.specs.Bytes.{Bytes, bytes_of, put}
use Rattle.wire.proofs.ByteLaws.{bytes_length, bytes_part}
use Rattle.wire.proofs.PutLaws.{put_fits, length_put}
use Rattle.wire.proofs.PlaceLaws.{put_before}
use Rattle.record.specs.Chain.{header_end, records, joined}
use Rattle.header.specs.Fields.{checksum_enabled, metadata_reference, tile_directory_reference}
use Rattle.page_check.proofs.GivenLaws.{sound_range}
use Rattle.written_records.specs.Pieces.{sealed}
use Rattle.stores.specs.Stores.{Write, run}
use Rattle.stores.specs.Writes.{one_write, seal_write}
use Rattle.writable.specs.Writable.{Open}
use Rattle.correct.specs.Front.{page_in, sealed_front}
use Rattle.effects.specs.Effects.{Makes}
use Rattle.effects.proofs.MadeLaws.{run_append, made_makes}
use Rattle.effects.proofs.LieLaws.{Lie, lie_one, lie_append, lie_more}
use Rattle.effects.proofs.InsideEffects.{one_run}
use Rattle.effects.proofs.FrontEffects.{front_run, seal_within, seal_run, seal_lies}
use Rattle.effects.proofs.BufferEffects.{page_long, buffer_split, front_ends, front_least}
use Rattle.correct.specs.Plan.{plan_right, planned_end}
use Rattle.correct.specs.Squeezing.{moved_to, squeezed_pieces, squeezed_fields, squeezed_page}
use Rattle.correct.specs.Writes.{squeeze_body, squeeze_writes}
use Rattle.squeezed.specs.Squeezed.{SqueezeMakes}
use Rattle.squeezed.proofs.OpenMoves.{squeezed_open}

module _ (b : List ℕ) (n : ℕ) (v : Bytes b) (inside : n ≤ length b) (o : Open (page_in b n)) (ps : List ℕ) (right : plan_right (page_in b n) ps ≡ true) where
  abbrev s : List ℕ
  s = page_in b n

  abbrev f : List ℕ
  f = take (header_end s) s

  abbrev J : List ℕ
  J = joined (squeezed_pieces s ps)

  abbrev A : List ℕ
  A = bytes_of 8 (moved_to s ps (metadata_reference s))

  abbrev B : List ℕ
  B = bytes_of 8 (moved_to s ps (tile_directory_reference s))

  abbrev flag : ℕ
  flag = checksum_enabled s

  abbrev e : ℕ
  e = header_end s

  abbrev G : List ℕ
  G = put (put f 64 A) 80 B

  page_bytes : Bytes s
  unfolding page_in
  page_bytes = bytes_part 0 n v

  ends : length f ≡ e
  ends = front_ends b n inside o.sound

  least : 288 ≤ length f
  least = front_least b n inside o.sound

  G-long : length G ≡ length f
  G-long = length_put (put f 64 A) 80 B ∙ length_put f 64 A

  front_sealed : sealed_front s (squeezed_fields s ps) ≡ sealed flag G 16 (e - 16)
  unfolding sealed_front squeezed_fields
  front_sealed = refl

  sealed_long : length (sealed flag G 16 (e - 16)) ≡ e
  unfolding sealed
  sealed_long = length_put G _ _ ∙ G-long ∙ ends

  -- the page is as long as the plan says, and ends in the old one
  end_is : e + length J ≡ planned_end s ps
  unfolding squeezed_page
  end_is =
      let k = squeezed_open s page_bytes o ps right in
      omega (arith, length-append (sealed_front s (squeezed_fields s ps)) J, ap length front_sealed, sealed_long, k.long)

  short : e + length J ≤ n
  unfolding squeezed_page
  short = omega (arith, end_is, (squeezed_open s page_bytes o ps right).long, (squeezed_open s page_bytes o ps right).shorter, page_long b n inside)

  abbrev rest : List ℕ
  rest = J ++ drop (e + length J) b

  first_run : run (one_write e J) b ≡ f ++ rest
  first_run =
      let k : take e b ≡ f = ap (take e) (buffer_split b n inside o.sound) ∙ take_at f _ e ends in
      one_run e J b ∙ put_fits b e J (omega (arith, short)) ∙ ap (λ (l : List ℕ). l ++ J ++ drop (e + length J) b) k ∙ append_assoc f J (drop (e + length J) b)

  body_run : run (squeeze_body s ps) b ≡ G ++ rest
  unfolding squeeze_body
  body_run =
      let x = bytes_length 8 (moved_to s ps (metadata_reference s)) in
      let y = bytes_length 8 (moved_to s ps (tile_directory_reference s)) in
      run_append (one_write e J ++ one_write 64 A) (one_write 80 B) b
      ∙ ap (run (one_write 80 B)) (run_append (one_write e J) (one_write 64 A) b ∙ ap (run (one_write 64 A)) first_run ∙ one_run 64 A (f ++ rest) ∙ put_before f rest 64 A (omega (arith, least)))
      ∙ one_run 80 B (put f 64 A ++ rest)
      ∙ put_before (put f 64 A) rest 80 B (omega (arith, least, length_put f 64 A))

  body_is : run (one_write e J ++ one_write 64 A ++ one_write 80 B) b ≡ G ++ rest
  unfolding squeeze_body
  body_is = body_run

  page_run : run (squeeze_writes b s ps) b ≡ squeezed_page s ps ++ drop (e + length J) b
  unfolding squeeze_writes squeezed_page
  page_run =
      let l = least in
      run_append (squeeze_body s ps) (seal_write flag 16 (e - 16) (run (squeeze_body s ps) b)) b
      ∙ ap (λ (d : List ℕ). run (seal_write flag 16 (e - 16) d) d) body_run
      ∙ ap (λ (ws : List Write). run ws (G ++ rest)) (seal_within flag G (e - 16) (omega (arith, G-long, ends)) (omega (arith, ends)) rest)
      ∙ front_run (seal_write flag 16 (e - 16) G) G rest (seal_lies flag G (e - 16) (omega (arith, G-long, ends)) (omega (arith, ends))).fits
      ∙ ap (λ (d : List ℕ). d ++ rest) (seal_run flag G (e - 16) (omega (arith, G-long, ends)) (omega (arith, ends)) ∙ sym front_sealed)
      ∙ sym (append_assoc (sealed_front s (squeezed_fields s ps)) J (drop (e + length J) b))

  page_lies : Lie 0 (e + length J) 4 (squeeze_writes b s ps)
  unfolding squeeze_writes squeeze_body
  page_lies =
      let l = least in
      let m = e + length J in
      let x = bytes_length 8 (moved_to s ps (metadata_reference s)) in
      let y = bytes_length 8 (moved_to s ps (tile_directory_reference s)) in
      let w : run (one_write e J ++ one_write 64 A ++ one_write 80 B) b ≡ G ++ rest = body_is in
      let z : Lie 0 m 1 (seal_write flag 16 (e - 16) (run (one_write e J ++ one_write 64 A ++ one_write 80 B) b)) =
      rw (w, seal_within flag G (e - 16) (omega (arith, G-long, ends)) (omega (arith, ends)) rest)
      (lie_more (seal_lies flag G (e - 16) (omega (arith, G-long, ends)) (omega (arith, ends))) m 1 (omega (arith, G-long, ends)) (omega arith)) in
      lie_append
      (lie_append (lie_append (lie_one 0 m 1 e J (omega arith) (omega arith) (omega arith)) (lie_one 0 m 1 64 A (omega arith) (omega (arith, ends)) (omega arith)))
      (lie_one 0 m 1 80 B (omega arith) (omega (arith, ends)) (omega arith)))
      z

  pub squeezing_makes : Makes b (squeeze_writes b s ps) (squeezed_page s ps) (planned_end s ps)
  squeezing_makes =
      let r = sound_range s (records s) o.sound in
      rw (← end_is)
      (made_makes (record { holds = page_run; inside = omega (arith, short); fits = page_lies.fits; few = page_lies.few }) (omega (arith, short, r.file, page_long b n inside)) (omega arith))

pub squeeze_makes : SqueezeMakes
squeeze_makes b n v inside o ps right = squeezing_makes b n v inside o ps right
