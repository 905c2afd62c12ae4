-- The byte stores of closing and removing, and what storing shares with them. Assumes nothing.
use Prim.Native.Nat.{ℕ, ◌≤◌}
use mathlib.Core.Path.{◌≡◌, sym, ap, ◌∙◌}
use mathlib.Core.List.{List, []}
use mathlib.Core.Bool.{Bool, true, false}
use native.Mathlib.Omega.{arith}
use lib.ListN.{length}
use Rattle.wire.specs.Pick.{pick}
use Rattle.wire.specs.Bytes.{part}
use Rattle.record.specs.Record.{length_at}
use Rattle.record.specs.Chain.{header_end, records}
use Rattle.header.specs.Fields.{checksum_enabled}
use Rattle.bodies.specs.TileDirectory.{tile_directory_at, reference_size}
use Rattle.tile_routes.specs.Ways.{carries}
use Rattle.written_records.specs.Pieces.{record_of}
use Rattle.stores.specs.Stores.{Write}
use Rattle.stores.specs.Writes.{whole_write}
use Rattle.stores.proofs.JoinLaws.{Ran, ran_on, ran_none}
use Rattle.correct.specs.Front.{page_in, workable}
use Rattle.correct.specs.Removing.{is_there}
use Rattle.correct.specs.Closing.{any_free, free_list, file_space_record}
use Rattle.correct.specs.RecordWrites.{refer_writes}
use Rattle.correct.specs.FieldWrites.{first_set, closed_front_writes}
use Rattle.correct.specs.Writes.{freeing_writes, then_refer, list_writes, close_writes, remove_writes}
use Rattle.correct.proofs.TileLaws.{part_most}
use Rattle.correct.proofs.ListLaws.{part_page}
use Rattle.edit_walks.specs.declared.Wanted.TheVariants.{Tile}
use Rattle.edit_walks.specs.Walks.{wanted_by, freed_from}
use Rattle.calls.specs.declared.Layout.{Layout}
use Rattle.calls.specs.Layouts.{layout_of}
use Rattle.calls.proofs.ReadLaws.{wide_size, worked_of, page_own}

-- closing: the list

module _ (s : List ℕ) where
  list_is : (room : ℕ) → any_free s ≡ true → list_writes room s ≡ whole_write room (length s) (record_of (checksum_enabled s) 3 (free_list s))
  unfolding list_writes file_space_record
  list_is room e = rw e

  list_not : (room : ℕ) → any_free s ≡ false → list_writes room s ≡ []
  unfolding list_writes
  list_not room e = rw e

pub list_there :
    {k : ℕ} {d : List ℕ} (n flag : ℕ) {there : Bool} {r : ℕ} {o : List ℕ} → workable (page_in d n) ≡ true → flag ≡ checksum_enabled (page_in d n) →
    there ≡ any_free (page_in d n) → there ≡ true → Ran k (whole_write (length d) n (record_of flag 3 (free_list (page_in d n)))) d r o →
    Ran k (list_writes (length d) (page_in d n)) d r o
list_there {k} {d} n flag {r = r} {o = o} w f g h q =
    let a = list_is (page_in d n) (length d) (sym g ∙ h) in
    rw a (go (sym (page_own d n w)) f q)
  where
    go :
        n ≡ length (page_in d n) → flag ≡ checksum_enabled (page_in d n) → Ran k (whole_write (length d) n (record_of flag 3 (free_list (page_in d n)))) d r o →
        Ran k (whole_write (length d) (length (page_in d n)) (record_of (checksum_enabled (page_in d n)) 3 (free_list (page_in d n)))) d r o
    go e f q = rw (← e, ← f) q

pub list_absent :
    (k : ℕ) (d : List ℕ) (n : ℕ) {there : Bool} → there ≡ any_free (page_in d n) → there ≡ false → Ran k (list_writes (length d) (page_in d n)) d k d
list_absent k d n e f = rw (list_not (page_in d n) (length d) (sym e ∙ f)) (ran_none k d)

pub list_ready :
    (d : List ℕ) (n : ℕ) {s : List ℕ} {flag : ℕ} {there : Bool} → s ≡ part d 0 n → workable (page_in d n) ≡ true → flag ≡ checksum_enabled s → there ≡ any_free s →
    (workable (page_in d n) ≡ true) × ((flag ≡ checksum_enabled (page_in d n)) × (there ≡ any_free (page_in d n)))
list_ready d n e w f g = let z = part_page d n e in (w, (f ∙ ap checksum_enabled z, g ∙ ap any_free z))

pub page_small : (d : List ℕ) (n : ℕ) → workable (page_in d n) ≡ true → n ≤ 16777216
page_small d n w = omega (arith, page_own d n w, (worked_of (page_in d n) w).file)

-- then the header

pub first_small : (s : List ℕ) {v : List ℕ} {p : ℕ} → v ≡ part s 48 8 → p ≤ length v → p ≤ 8
first_small s e h = omega (arith, part_most s 48 8, ap length e)

pub closing_done :
    {k : ℕ} {d : List ℕ} (n t : ℕ) {s v : List ℕ} {flag end p : ℕ} {there : Bool} {a r : ℕ} {l o : List ℕ} → s ≡ part d 0 n → workable (page_in d n) ≡ true →
    flag ≡ checksum_enabled s → end ≡ header_end s → there ≡ any_free s → v ≡ part s 48 8 → p ≡ first_set v →
    Ran k (list_writes (length d) (page_in d n)) d a l → Ran a (closed_front_writes flag end t there n p l) l r o →
    Ran k (close_writes d (page_in d n) t) d r o
unfolding close_writes
closing_done {k} {d} n t {s} {v} {flag} {end} {p} {there} {a} {r} {l} {o} e w f g h i j q q' =
    let z = part_page d n e in
    let f' : flag ≡ checksum_enabled (page_in d n) = f ∙ ap checksum_enabled z in
    let g' : end ≡ header_end (page_in d n) = g ∙ ap header_end z in
    let h' : there ≡ any_free (page_in d n) = h ∙ ap any_free z in
    let j' : p ≡ first_set (part (page_in d n) 48 8) = j ∙ ap first_set (i ∙ ap (λ (y : List ℕ). part y 48 8) z) in
    ran_on
    (λ y. closed_front_writes (checksum_enabled (page_in d n)) (header_end (page_in d n)) t (any_free (page_in d n)) (length (page_in d n)) (first_set (part (page_in d n) 48 8)) y)
    q (go (page_in d n) f' g' h' j' (sym (page_own d n w)) q')
  where
    go :
        (x : List ℕ) → flag ≡ checksum_enabled x → end ≡ header_end x → there ≡ any_free x → p ≡ first_set (part x 48 8) → n ≡ length x →
        Ran a (closed_front_writes flag end t there n p l) l r o →
        Ran a (closed_front_writes (checksum_enabled x) (header_end x) t (any_free x) (length x) (first_set (part x 48 8)) l) l r o
    go x f g h j m q = rw (← f, ← g, ← h, ← j, ← m) q

-- a record freed, and the reference set

pub freeing_done :
    {k : ℕ} {d : List ℕ} (n i : ℕ) {s : List ℕ} {p : Layout} {a : ℕ} {l : List ℕ} → s ≡ part d 0 n → p ≡ layout_of s →
    Ran k (freed_from (length d) p.flag (page_in d n) (Tile i) p.end p.end false) d a l →
    Ran k (freeing_writes (length d) (page_in d n) (carries (page_in d n) i)) d a l
unfolding freed_from freeing_writes layout_of wanted_by records
freeing_done {k} {d} n i {s} {p} {a} {l} e f q =
    let z : p ≡ layout_of (page_in d n) = f ∙ ap layout_of (part_page d n e) in
    rw z at q

refer_is :
    (s : List ℕ) (i content : ℕ) (l : List ℕ) →
    refer_writes (layout_of s).flag (layout_of s).directory (layout_of s).long (pick (layout_of s).wide 8 4) i content l
    ≡ refer_writes (checksum_enabled s) (tile_directory_at s) (length_at s (tile_directory_at s)) (reference_size s) i content l
unfolding layout_of
refer_is s i content l = rw (wide_size s)

pub refer_done :
    {k : ℕ} {d : List ℕ} (n i content : ℕ) {s : List ℕ} {p : Layout} {xs : List Write} {a r : ℕ} {l o : List ℕ} → s ≡ part d 0 n → p ≡ layout_of s →
    Ran k xs d a l → Ran a (refer_writes p.flag p.directory p.long (pick p.wide 8 4) i content l) l r o →
    Ran k (then_refer (page_in d n) i content xs d) d r o
unfolding then_refer
refer_done {k} {d} n i content {s} {p} {xs} {a} {r} {l} {o} e f q q' =
    let x = page_in d n in
    let z : p ≡ layout_of x = f ∙ ap layout_of (part_page d n e) in
    let q'' : Ran a (refer_writes (layout_of x).flag (layout_of x).directory (layout_of x).long (pick (layout_of x).wide 8 4) i content l) l r o =
    rw z at q' in
    ran_on (refer_writes (checksum_enabled x) (tile_directory_at x) (length_at x (tile_directory_at x)) (reference_size x) i content) q
    (rw (refer_is x i content l) at q'')

-- removing

pub removing_there :
    {k : ℕ} {d : List ℕ} (n i : ℕ) {s : List ℕ} {b : Bool} {r : ℕ} {o : List ℕ} → s ≡ part d 0 n → b ≡ is_there s i → b ≡ true →
    Ran k (then_refer (page_in d n) i 0 (freeing_writes (length d) (page_in d n) (carries (page_in d n) i)) d) d r o →
    Ran k (remove_writes d (page_in d n) i) d r o
unfolding remove_writes
removing_there {k} {d} n i {s} e f g q =
    let z : is_there (page_in d n) i ≡ true = ap (λ (y : List ℕ). is_there y i) (sym (part_page d n e)) ∙ sym f ∙ g in
    rw z q

pub removing_absent :
    (k : ℕ) (d : List ℕ) (n i : ℕ) {s : List ℕ} {b : Bool} → s ≡ part d 0 n → b ≡ is_there s i → b ≡ false → Ran k (remove_writes d (page_in d n) i) d k d
unfolding remove_writes
removing_absent k d n i {s} e f g =
    let z : is_there (page_in d n) i ≡ false = ap (λ (y : List ℕ). is_there y i) (sym (part_page d n e)) ∙ sym f ∙ g in
    rw z (ran_none k d)
