-- An open page whose fields are set, with file-space directories put behind its pieces: it is sound, and has the same tiles and metadata.
-- Assumes nothing.
use Prim.Native.Nat.{ℕ, ◌+◌, ◌-◌, ◌≤◌}
use mathlib.Core.Path.{◌≡◌, sym, ap, ap₂, subst, ◌∙◌}
use mathlib.Core.List.{List, [], ◌++◌, map, map-append, append-nil, Memᴰ}
use mathlib.Core.Bool.{true, false}
use native.Mathlib.Omega.{arith}
use lib.ListN.{length, take, length-append}
use Rattle.wire.specs.Bytes.{Bytes, byte_at, number_at, Same}
use Rattle.wire.proofs.ByteLaws.{byte_before, number_before, same_part}
use Rattle.record.specs.Chain.{header_end, records_of, joined, WellFormed}
use Rattle.header.specs.Fields.{checksum_enabled, metadata_reference, tile_directory_reference}
use Rattle.check_header.specs.Judged.{SameJudged}
use Rattle.check_records.specs.declared.Rule.{Rule}
use Rattle.check_records.specs.declared.Rule.TheVariants.{Body}
use Rattle.check_directory.specs.TileRules.{tile_directory_right}
use Rattle.check_lists.specs.Metadata.{metadata_directory_right}
use Rattle.page_check.specs.Accepted.{Sound}
use Rattle.pieces.specs.Pieces.{pieces}
use Rattle.pieces.specs.Standing.{standing, place_of}
use Rattle.alone.specs.Alone.{SameHeader, SameRecord, Front, alone, AllAlone}
use Rattle.alone.proofs.HeaderLaws.{front_long}
use Rattle.alone.proofs.PieceLaws.{front_changes}
use Rattle.alone.proofs.StandLaws.{records_are, same_at, places_same, standing_keeps}
use Rattle.writable.specs.Writable.{Open, directory_full}
use Rattle.writable.specs.Parts.{Parted}
use Rattle.writable.proofs.PartLaws.{sound_parted, judged_headed}
use Rattle.correct.specs.Front.{sealed_front}
use Rattle.page_laws.specs.Tiles.{tiles_of, of_tile, SameUnset}
use Rattle.page_laws.proofs.FrontLaws.{FieldsSet, seal_length, seal_number, seal_judged, seal_header, seal_front, seal_checksum, page_unset, page_between}
use Rattle.page_laws.proofs.MoreLaws.{byte_past, well_append, all_append, joined_append, standing_append}
use Rattle.page_laws.proofs.PageLaws.{parted_alone, sound_judged, made_sound}
use Rattle.page_laws.proofs.TileMapLaws.{tiles_same}
use Rattle.page_laws.proofs.KeptLaws.{KeptBy}
use Rattle.page_laws.proofs.TilesKeptLaws.{tiles_stand_kept}

-- the same bytes behind fronts of one length, whatever stands behind them
same_behind : (s t f h c d : List ℕ) → s ≡ f ++ c → t ≡ h ++ (c ++ d) → length f ≡ length h → Same s t (length f) (length s)
same_behind s t f h c d p q e =
    let m : length s ≡ length f + length c = ap length p ∙ length-append f c in
    let n : length t ≡ length h + (length c + length d) = ap length q ∙ length-append h (c ++ d) ∙ ap (λ (k : ℕ). length h + k) (length-append c d) in
    record {
      in_first = omega arith;
      in_second = omega arith;
      each =
          λ i l k.
          ap (λ (x : List ℕ). byte_at x i) p
          ∙ byte_past f h c (c ++ d) e i l (sym (byte_before c d (i - length f) (omega arith)))
          ∙ ap (λ (x : List ℕ). byte_at x i) (sym q);
    }

-- g is the front with fields set, more are the directories
module _
    (s : List ℕ) (o : Open s) (g : List ℕ) (k : FieldsSet 64 (take (header_end s) s) g) (more : List (List ℕ)) (v : WellFormed more)
    (apart : (kind at : ℕ) → (kind ≡ 3 → ⊥) → standing kind at more ≡ [])
  where
    abbrev f : List ℕ
    f = take (header_end s) s

    abbrev h : List ℕ
    h = sealed_front s g

    abbrev qs : List (List ℕ)
    qs = pieces s ++ more

    -- the page
    abbrev u : List ℕ
    u = h ++ joined qs

    parts : Parted s f (pieces s)
    parts = sound_parted s o.sound

    ends : header_end s ≡ length f
    ends = sym parts.ends

    pub behind_front : Front h
    behind_front = seal_front s f g parts.front ends k

    long : length h ≡ length f
    long = seal_length s f g parts.front ends k

    says : SameHeader f h
    says = seal_header s f g parts.front ends k

    pub behind_flag : checksum_enabled s ≡ checksum_enabled h
    behind_flag = parts.header.flag ∙ says.flag

    formed : WellFormed qs
    formed = well_append (pieces s) more parts.formed v

    unset : SameUnset s u
    unset = page_unset parts g k (joined qs)

    judged : SameJudged s u
    judged = sound_judged o.sound unset

    -- where the page ended
    pub behind_start : length h + length (joined (pieces s)) ≡ length s
    behind_start = let a = ap length parts.whole ∙ length-append f (joined (pieces s)) in omega (arith, long)

    -- up to there, each byte behind the header stays
    pub behind_bytes : Same s u (header_end s) (length s)
    behind_bytes =
        subst (λ (a : ℕ). Same s u a (length s)) parts.ends
        (same_behind s u f h (joined (pieces s)) (joined more) parts.whole (ap (λ (l : List ℕ). h ++ l) (joined_append (pieces s) more)) (sym long))

    -- fields read as they were set
    pub behind_number : (w at : ℕ) → at + w ≤ 88 → number_at w u at ≡ number_at w g at
    behind_number w at l =
        let m = front_long parts.front [] in
        number_before w h (joined qs) at (omega (arith, long)) ∙ seal_number s f g parts.front ends k w at (omega arith)

    -- records of other types stay
    stays : (kind : ℕ) → (kind ≡ 3 → ⊥) → standing kind (length f) (pieces s) ≡ standing kind (length h) qs
    stays kind z =
        sym
        (standing_append kind (length h) (pieces s) more
        ∙ ap (λ (l : List (ℕ × List ℕ)). standing kind (length h) (pieces s) ++ l) (apart kind (length h + length (joined (pieces s))) z)
        ∙ append-nil (standing kind (length h) (pieces s))
        ∙ ap (λ (n : ℕ). standing kind n (pieces s)) long)

    pub behind_records : (kind : ℕ) → (kind ≡ 3 → ⊥) → records_of s kind ≡ records_of u kind
    behind_records kind z =
        ap (λ (l : List ℕ). records_of l kind) parts.whole
        ∙ places_same parts.front behind_front (pieces s) qs parts.formed formed kind (stays kind z)

    pub behind_same : (kind : ℕ) → (kind ≡ 3 → ⊥) → (x : ℕ) → Memᴰ x (records_of s kind) → SameRecord s x u x
    behind_same kind z x m =
        let e : SameRecord (f ++ joined (pieces s)) x u x =
        same_at parts.front behind_front (pieces s) qs parts.formed formed kind (stays kind z) x (go parts.whole m) in
        back parts.whole e
      where
        go : {a b : List ℕ} → a ≡ b → Memᴰ x (records_of a kind) → Memᴰ x (records_of b kind)
        go e n = rw (← e) n

        back : {a b : List ℕ} → a ≡ b → SameRecord b x u x → SameRecord a x u x
        back e n = rw e n

    -- the file-space directories are those that are put
    pub behind_new : records_of s 3 ≡ [] → records_of u 3 ≡ map place_of (standing 3 (length s) more)
    behind_new z =
        records_are h behind_front qs formed 3
        ∙ ap (map place_of) (standing_append 3 (length h) (pieces s) more)
        ∙ map-append place_of (standing 3 (length h) (pieces s)) (standing 3 (length h + length (joined (pieces s))) more)
        ∙ ap₂ (λ (a b : List ℕ). a ++ b) none (ap (λ (n : ℕ). map place_of (standing 3 n more)) behind_start)
      where
        none : map place_of (standing 3 (length h) (pieces s)) ≡ []
        none =
            ap (λ (n : ℕ). map place_of (standing 3 n (pieces s))) long
            ∙ sym (records_are f parts.front (pieces s) parts.formed 3)
            ∙ ap (λ (l : List ℕ). records_of l 3) (sym parts.whole) ∙ z

    pub behind_kept : KeptBy s f h qs (λ j. false)
    behind_kept =
        record {
          parted = parts;
          front = behind_front;
          formed = formed;
          header = unset;
          reference = same_part (page_between parts g k (joined qs)) 64 72 (omega arith) (omega arith);
          metadata = stays 1 (λ e. omega arith);
          directory = stays 4 (λ e. omega arith);
          records = λ j n. ap (of_tile j) (sym (stays 2 (λ e. omega arith)));
        }

    -- all of it
    module _
        (bytes : Bytes g) (room : length u ≤ 16777216) (metadata : number_at 8 g 64 ≡ metadata_reference f) (tiles : number_at 8 g 80 ≡ tile_directory_reference f)
        (new : (rule : Rule) → AllAlone h rule more)
      where
        rules : (rule : Rule) → AllAlone h rule qs
        rules rule =
            all_append (λ r. alone h rule r ≡ true) (pieces s) more
            (front_changes f h parts.front behind_front says rule (pieces s) parts.formed (parted_alone parts rule)) (new rule)

        field : (at : ℕ) → at + 8 ≤ 88 → number_at 8 h at ≡ number_at 8 g at
        field at l = let m = front_long parts.front [] in seal_number s f g parts.front ends k 8 at (omega arith)

        tile_right_lem : tile_directory_right u ≡ true
        tile_right_lem =
            (tiles_stand_kept f (pieces s) h qs
            (record {
              first = parts.front;
              second = behind_front;
              judged = seal_judged s f g parts.front ends k;
              reference = sym (field 80 (omega arith) ∙ tiles);
              formed = parts.formed;
              formed_too = formed;
              records = stays 2 (λ e. omega arith);
              directories = stays 5 (λ e. omega arith);
            })
            (ap tile_directory_right (sym parts.whole) ∙ o.sound.tile_directory) (ap directory_full (sym parts.whole) ∙ o.full)).0

        metadata_right_lem : metadata_directory_right u ≡ true
        metadata_right_lem =
            sym
            (standing_keeps f (pieces s) h qs
            (record {
              first = parts.front;
              second = behind_front;
              ends = sym long;
              reference = sym (field 64 (omega arith) ∙ metadata);
              formed = parts.formed;
              formed_too = formed;
              right = parted_alone parts Body;
              records = stays 1 (λ e. omega arith);
              directories = stays 4 (λ e. omega arith);
            }))
            ∙ ap metadata_directory_right (sym parts.whole) ∙ o.sound.metadata_directory_lem

        pub behind_sound : Sound u
        behind_sound =
            made_sound h qs behind_front formed (judged_headed s u (length s) (length u) o.sound.headed judged judged.in_second room)
            (seal_checksum s f g parts.front ends k parts.header.flag bytes (joined qs)) rules tile_right_lem metadata_right_lem

        pub behind_tiles : (j : ℕ) → tiles_of u j ≡ tiles_of s j
        behind_tiles j =
            sym
            (ap (λ (l : List ℕ). tiles_of l j) parts.whole
            ∙ tiles_same parts.front behind_front says (pieces s) qs parts.formed formed (parted_alone parts Body) (rules Body) (stays 2 (λ e. omega arith)) j)
