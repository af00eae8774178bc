-- The returns of `call_back`: what is asked, of the texts that the tables write back.
use mathlib.Core.Path.{◌≡◌, refl, sym, ap, ap₂, ◌∙◌, subst}
use mathlib.Core.Bool.{Bool, true, false}
use mathlib.Core.List.{List}
use mathlib.Core.Option.{Option, none}
use Prim.Native.Nat.{ℕ, ◌+◌, ◌≤◌, min}
use native.Mathlib.Omega.{arith}
use lib.Dec.{eqb, leb}
use lib.ListN.{drop, length, length-replicate, replicate, take, take-append-drop}
use lib.Seq.{length-sets, length-take-le, sets, take_all, take_at}
use borrow.Author.Tests.{eq-eqb, ne_eqb}
use Rattle.laws.specs.Tests.{◌and◌, choose}
use Rattle.laws.specs.Slices.{below_or, sets_append, sets_out}
use Rattle.rules.specs.Text.{Bytes}
use Rattle.rules.specs.Job.{Request as Asked, of_stage, outcome, serving}
use Rattle.answer.specs.Refusals.{Answer}
use Rattle.answer.specs.Outcomes.{Told, refusal_told, told_as}
use Rattle.records.specs.declared.Job.{Job}
use Rattle.reader.specs.Result.{Count}
use Rattle.text.specs.Puts.{Puts, puts_front}
use Rattle.requests.specs.declared.Request.{Request}
use Rattle.requests.specs.declared.Request.TheVariants.{Check, Label as LabelOf, Probes, Program, Record, Sheet, Unknown}
use Rattle.requests.specs.Requests.{asked}
use Rattle.writer.specs.Writes.{Writes}
use Rattle.versions.specs.Memory.{Memory, memory}
use Rattle.writeback.specs.Parts.{parts_same}
use Rattle.writeback.specs.Back.{back_text}
use Rattle.lent_job.specs.Held.{AllRead, Lent, numbers}
use Rattle.lent_job.specs.Calls.{LentJob, given_by, goes_by, held, held_back, lent_job, limited, new_count, old_count, request_scratch, takes_parts, text_back, written_back}
use Rattle.lent_job.specs.ProgramBack.{Whole}
use Rattle.lent_job.proofs.ProgramBack.{held_back_is}
use Rattle.job_calls.specs.Loaded.{BackAnswer, HeldAnswer, not_held}
use Rattle.job_calls.proofs.Laws.{fill}

-- ---- `takes_parts`, `limit`, `not_held`

pub takes_program : (side : ℕ) → true ≡ takes_parts (asked (Program side))
unfolding asked
takes_program side = refl

pub takes_other : (q : Request) → ((side : ℕ) → q ≡ Program side → ⊥) → false ≡ takes_parts (asked q)
unfolding asked
takes_other Sheet z = refl
takes_other (Record i) z = refl
takes_other Check z = refl
takes_other (LabelOf side n) z = refl
takes_other (Program side) z = absurd (z side refl)
takes_other Probes z = refl
takes_other Unknown z = refl

pub limit_is : (p n e p' n' e' : ℕ) → p' ≡ min p 64 → n' ≡ min n 512 → e' ≡ min e 1024 → record { number = 0; place = 0; procs = p'; nodes = n'; edges = e' } ≡ limited p n e
limit_is p n e p' n' e' ep en ee = rw (ep, en, ee) refl

pub not_stage : (j : Job) → (j.stage ≡ 3 → ⊥) → record { number = 13; place = 0 } ≡ not_held j
unfolding not_held choose
not_stage j z = simp (ne_eqb _ _ z)

pub not_left : (j : Job) → j.stage ≡ 3 → record { number = 14; place = 0 } ≡ not_held j
unfolding not_held choose
not_left j e = simp (eq-eqb _ _ e)

-- ---- `call_back`

-- The front of what was written, up to the end of the output.
front_written : (o vs : List ℕ) (r : ℕ) (o' : List ℕ) → Puts o 0 vs r o' → take r o' ≡ take (length o) vs
front_written o vs r o' p =
    below_or (length o) (length vs)
    (λ b.
    let n = length o in
    let e : length (take n vs) ≡ n = length-take-le n vs (omega arith) in
    let cut : o' ≡ take n vs
    = p.bytes ∙ ap (sets o 0) (sym (take-append-drop n vs)) ∙ sym (sets_append o 0 (take n vs) (drop n vs))
    ∙ sets_out (drop n vs) (sets o 0 (take n vs)) (0 + length (take n vs)) (omega (arith, length-sets o 0 (take n vs), e)) ∙ fill o (take n vs) e in
    ap (take r) cut ∙ take_all r (take n vs) (omega (arith, e, p.next)))
    (λ b.
    ap₂ (λ (n : ℕ) (x : List ℕ). take n x) (let z : r ≡ length vs = omega (arith, p.next) in z) (puts_front p b) ∙ take_at vs (drop (length vs) o) (length vs) refl
    ∙ sym (take_all (length o) vs b))

-- The text that was written into an empty output of 65,536 bytes.
pub text_put : (v : Lent) (c d : Count) (z z' : List ℕ) (most r : ℕ) (t : Bytes) → c ≡ d → z ≡ replicate 65536 0 → Writes z 0 (back_text v.text v.nodes v.links c) most r z' → t ≡ take r z'
    → t ≡ text_back v d
unfolding text_back
text_put v c d z z' most r t ec ez w et =
    et ∙ front_written z _ r z' w.puts
    ∙ ap₂ (λ (n : ℕ) (x : Count). take n (back_text v.text v.nodes v.links x)) (ap length ez ∙ length-replicate {A = ℕ} 65536 0) ec

-- The same of a version in memory.
pub text_put_of : (v : Lent) (m : Memory) → m ≡ memory v.text v.nodes v.links → (c d : Count) (z z' : List ℕ) (most r : ℕ) (t : Bytes) → c ≡ d → z ≡ replicate 65536 0
    → Writes z 0 (back_text m.text m.nodes m.links c) most r z' → t ≡ take r z' → t ≡ text_back v d
text_put_of v m q c d z z' most r t ec ez w et =
    text_put v c d z z' most r t ec ez (subst (λ (x : Memory). Writes z 0 (back_text x.text x.nodes x.links c) most r z') q w) et

pub parts_of : (m : Memory) (t n l b : List ℕ) (c : Count) (u : Bool) → m ≡ memory t n l → u ≡ parts_same m.text b m.nodes m.links c → u ≡ parts_same t b n l c
parts_of m t n l b c u q e = subst (λ (x : Memory). u ≡ parts_same x.text b x.nodes x.links c) q e

module _ (q : Asked) (j : Job) (olds : ℕ) (ot on ol : List ℕ) (news : ℕ) (nt nn nl tt tests rows : List ℕ) (n : ℕ) (wo : 2048 ≤ length on) (wn : 2048 ≤ length nn) where
  abbrev this_job : LentJob
  this_job = lent_job j (numbers olds ot on ol) (numbers news nt nn nl) tt tests rows n

  whole : Whole this_job
  whole = record { old_whole = λ h. wo; new_whole = λ h. wn }

  module _ (ob nb : Bytes) (eo : ob ≡ text_back (numbers olds ot on ol) (old_count j)) (en : nb ≡ text_back (numbers news nt nn nl) (new_count j)) (u : Bool) (co cn : Count) (eco : co ≡ old_count j)
      (ecn : cn ≡ new_count j) (eu : u ≡ parts_same ot ob on ol co) where
    abbrev back_job : LentJob
    back_job = lent_job j (numbers olds ob on ol) (numbers news nb nn nl) tt tests rows n

    is_back : back_job ≡ written_back this_job
    unfolding written_back
    is_back = ap₂ (λ (a b : Bytes). lent_job j (numbers olds a on ol) (numbers news b nn nl) tt tests rows n) eo en

    held_by : (v : Bool) → v ≡ parts_same nt nb nn nl cn → held_back this_job ≡ choose (u and v) (held back_job) none
    held_by v ev =
        held_back_is this_job whole
        ∙ sym (ap₂ (λ (b : Bool) (k : LentJob). choose b (held k) none)
        (ap₂ ◌and◌ (eu ∙ ap₂ (λ (t : Bytes) (c : Count). parts_same ot t on ol c) eo eco) (ev ∙ ap₂ (λ (t : Bytes) (c : Count). parts_same nt t nn nl c) en ecn)) is_back)

    pub back_goes : (v : Bool) (input out out' : Bytes) (r : Answer) → v ≡ parts_same nt nb nn nl cn → u ≡ true → v ≡ true → HeldAnswer q back_job input out r out' → BackAnswer q this_job input out r out'
    unfolding HeldAnswer BackAnswer goes_by ◌and◌ choose
    back_goes v input out out' r ev a b t =
        let f : choose (u and v) (held back_job) none ≡ held back_job = simp (a, b) in
        told_as (ap (λ (x : Option AllRead). outcome (goes_by this_job x) (λ h. serving q (given_by h) input (length out))) (held_by v ev ∙ f)) t

    -- Where nothing is held.
    none_told : (input out : Bytes) (r : Answer) → held_back this_job ≡ none → r ≡ not_held j → BackAnswer q this_job input out r out
    unfolding BackAnswer not_held goes_by of_stage outcome choose
    none_told input out r e er = go (eqb j.stage 3) (leb request_scratch n) refl refl
      where
        Goal : Answer → Type 0
        Goal x = Told (outcome (goes_by this_job (held_back this_job)) (λ h. serving q (given_by h) input (length out))) x out out

        go : (s t : Bool) → eqb j.stage 3 ≡ s → leb request_scratch n ≡ t → Goal r
        go true true es et = subst Goal (sym (er ∙ simp es)) (told_as (simp (es, et, e)) (refusal_told 14 0 out))
        go true false es et = subst Goal (sym (er ∙ simp es)) (told_as (simp (es, et)) (refusal_told 14 0 out))
        go false t es et = subst Goal (sym (er ∙ simp es)) (told_as (simp es) (refusal_told 13 0 out))

    pub back_no_old : (input out : Bytes) (r : Answer) → u ≡ false → r ≡ not_held j → BackAnswer q this_job input out r out
    unfolding ◌and◌ choose
    back_no_old input out r a er = let f : choose (u and parts_same nt nb nn nl cn) (held back_job) none ≡ none = simp a in none_told input out r (held_by _ refl ∙ f) er

    pub back_no_new : (v : Bool) (input out : Bytes) (r : Answer) → v ≡ parts_same nt nb nn nl cn → u ≡ true → v ≡ false → r ≡ not_held j → BackAnswer q this_job input out r out
    unfolding ◌and◌ choose
    back_no_new v input out r ev a b er = let f : choose (u and v) (held back_job) none ≡ none = simp (a, b) in none_told input out r (held_by v ev ∙ f) er

pub ruleset all = (takes_program, takes_other, limit_is, not_stage, not_left)
