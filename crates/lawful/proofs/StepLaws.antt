-- What follows of every call, and of calls one behind the other: no case for any. Assumes nothing.
use Rattle.std.specs.Prelude.{Err, Ok, Result, ⊤}
use Prim.Native.Nat.{ℕ}
use native.Mathlib.Omega.{arith}
use mathlib.Core.Path.{◌≡◌, refl, sym, ap, ◌∙◌}
use mathlib.Core.Logic.{◌⊎◌, inl, inr}
use mathlib.Core.Bool.{Bool}
use mathlib.Core.List.{List, [], ◌++◌}
use lib.ListN.{length, take, drop, length-append}
use lib.Seq.{take-append_seam}
use Rattle.wire.specs.Bytes.{Bytes}
use Rattle.wire.proofs.ByteLaws.{part_in, bytes_append, bytes_drop}
use Rattle.answer.specs.declared.Refusal.{Refusal}
use Rattle.answer.specs.declared.Refusal.TheVariants.{Input, NotOpen}
use Rattle.answer.specs.Refusals.{refusal_place, gate, unless_refused}
use Rattle.page_check.specs.Stages.{check}
use Rattle.stores.specs.Stores.{run, Fits}
use Rattle.correct.specs.Front.{page_in}
use Rattle.correct.specs.Answers.{on_page, on_open_page, on_accepted_page}
use Rattle.correct.specs.Calls.{Call, Given, Role, kind_of, Change, line_of, admitted, change_on, change_of, answer_by, out_by, stores_by, State, page_of, change_in, answer_of, out_of, stores_of, after}
use Rattle.effects.specs.Effects.{Wants}
use Rattle.effects.proofs.BufferEffects.{page_long}
use Rattle.effects.proofs.MadeLaws.{fits_more}
use Rattle.effects.proofs.PassedLaws.{answer_passed, answer_refused, passed, judged_once}
use Rattle.lawful.specs.Lawful.{Done, RefusedLeaves, RefusedPlace}
use Rattle.lawful.proofs.CaseLaws.{Refusing, refusing_gate, lawful}

-- what is put before a buffer's rest is its page
pub page_first : (page z : List ℕ) (m : ℕ) → length page ≡ m → page_in (page ++ z) m ≡ page
unfolding page_in
page_first page z m e =
    let l = length-append page z in
    part_in (page ++ z) 0 m (omega arith) ∙ ap (λ (k : ℕ). take k (page ++ z)) (sym e) ∙ take-append_seam page z

-- a refused call

pub refused_leaves : RefusedLeaves
unfolding after out_by
refused_leaves call st r e = rw e

-- a refusal has place 0, or is the check's

abbrev Placed : Result ⊤ Refusal → Result ⊤ Refusal → Type 0
Placed v w = Refusing (λ r. (refusal_place r ≡ 0) ⊎ (w ≡ Err r)) v

placed_gate : (b : Bool) (q : Refusal) (v w : Result ⊤ Refusal) → refusal_place q ≡ 0 → Placed v w → Placed (gate b q v) w
placed_gate b q v w z p = refusing_gate (λ r. (refusal_place r ≡ 0) ⊎ (w ≡ Err r)) b q v (inl z) p

placed_check : (v w : Result ⊤ Refusal) → Placed v w → Placed (unless_refused Err w v) w
unfolding unless_refused
placed_check v (Ok accepted) p = p
placed_check v (Err q) p = λ r e. inr e

placed_admitted : (r : Role) (b : List ℕ) (n : ℕ) (v : Result ⊤ Refusal) → Placed v (check (page_in b n)) → Placed (admitted r b n v) (check (page_in b n))
unfolding admitted on_accepted_page on_open_page on_page
placed_admitted Role.Opens b n v p = placed_gate _ Input _ _ refl (placed_check v _ p)
placed_admitted Role.Works b n v p = placed_gate _ Input _ _ refl (placed_gate _ NotOpen _ _ refl p)
placed_admitted Role.Closes b n v p = placed_gate _ Input _ _ refl (placed_gate _ NotOpen _ _ refl p)

pub refused_place : RefusedPlace
unfolding answer_by page_of
refused_place call st r e =
    placed_admitted (kind_of call).role st.buffer st.long _ (λ q f. inl ((lawful call).refused st.buffer (page_in st.buffer st.long) q f)) r
    (sym (judged_once call st.buffer st.long) ∙ answer_refused (change_in call st).verdict (change_in call st).long r e)

pub refused_stores : (call : Call) (st : State) (r : Refusal) → answer_of call st ≡ Err r → stores_of call st ≡ []
unfolding stores_by
refused_stores call st r e = rw e

-- one that is not refused: what it does, the page that it leaves, its stores

abbrev pub line_in : Call → State → Change
line_in call st = line_of call st.buffer (page_of st)

pub record Stepped (call : Call) (st : State) (m : ℕ) : Type 0 where
  pub wanted : Wants (kind_of call).role (page_of st)
  pub done : Done call st.buffer (page_of st)
  pub own : length (page_of st) ≡ st.long
  pub long : (line_in call st).long ≡ m
  pub state : after call st ≡ record { buffer = (line_in call st).page ++ drop m st.buffer; long = m }
  pub page : page_of (after call st) ≡ (line_in call st).page
  pub stores : stores_of call st ≡ (line_in call st).writes

pub stepped : (call : Call) (st : State) (m : ℕ) → Bytes st.buffer → Given call → answer_of call st ≡ Ok m → Stepped call st m
unfolding after answer_by out_by stores_by page_of change_of change_on
stepped call st m w g q =
    let v = answer_passed (change_in call st).verdict (change_in call st).long m q in
    let a = passed call st.buffer st.long v.0 in
    let d = (lawful call).done g st.buffer st.long w a.0 a.1.0 a.1.1 in
    let p = page_first (line_in call st).page (drop m st.buffer) m (d.makes.long ∙ v.1) in
    record { wanted = a.1.0; done = d; own = page_long st.buffer st.long a.0; long = v.1; state = rw q; page = rw q p; stores = rw q }

-- its byte stores, refused or not

pub record Does (call : Call) (st : State) : Type 0 where
  pub whole : run (stores_of call st) st.buffer ≡ out_of call st
  pub fits : Fits (length st.buffer) (stores_of call st)
  pub bytes : Bytes (out_of call st)

pub does : (call : Call) (st : State) → Bytes st.buffer → Given call → Does call st
unfolding out_by stores_by run change_of change_on page_of
does call st w g = go (answer_of call st) refl
  where
    go : (a : Result ℕ Refusal) → answer_of call st ≡ a → Does call st
    go (Ok m) q =
        let s = stepped call st m w g q in
        let d = s.done in
        let l = s.long in
        record {
          whole = rw (q, ← l) d.makes.holds;
          fits = rw q (fits_more (line_in call st).long (length st.buffer) (line_in call st).writes d.room d.makes.fits);
          bytes = rw q (bytes_append d.bytes (bytes_drop m w));
        }
    go (Err r) q = record { whole = rw q; fits = rw q _; bytes = rw q w }

pub after_buffer : (call : Call) (st : State) → (after call st).buffer ≡ out_of call st
unfolding after
after_buffer call st = refl

pub after_bytes : (call : Call) (st : State) → Bytes st.buffer → Given call → Bytes (after call st).buffer
after_bytes call st w g = rw (after_buffer call st) (does call st w g).bytes
