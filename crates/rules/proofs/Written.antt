-- When a sheet or a record line is written, and when it is refused for too many pairs and for too short an output: each for its one reason.
use Rattle.std.specs.Prelude.{◌≡◌, Bool, ℕ, ◌≤◌, ◌<◌}
use Rattle.std.proofs.Math.Path.{refl, ap}
use Rattle.std.proofs.Common.{sym, ◌∙◌, subst, arith}
use Rattle.std.proofs.Math.Bool.{true, false}
use Rattle.std.proofs.Math.Dec.{ltb}
use Rattle.std.proofs.Math.ListN.{length}
use borrow.Author.Tests.{ltb-true, ltb-false, lt-ltb, le-ltb}
use Rattle.laws.specs.Tests.{choose}
use Rattle.laws.specs.Lists.{choose_yes, choose_no}
use Rattle.rules.specs.Text.{Reading, Bytes, max_pairs, too_many}
use Rattle.rules.specs.SuiteFile.{test_count}
use Rattle.rules.specs.Closing.{pairs}
use Rattle.rules.specs.Job.{Given, Outcome, answering, outcome, probes_bytes, record_bytes, recording, refusal, serving, sheet_bytes, writing, written, wrote}
use Rattle.rules.specs.Promises.{Writes, WritesExactly}
use Rattle.rules.proofs.JobLaws.{never_wrote, writing_wrote}

other : {k j : ℕ} → refusal k 0 ≡ refusal j 0 → k ≡ j
other e = cc

module _ (limit over : ℕ) (apart : over ≡ 16 → ⊥) (g : Given) (room : ℕ) (b : Bytes) where
  abbrev n : ℕ
  n = length (pairs g.old g.new)

  -- Where the pairs are few enough, 16 is judged; `over` is answered only where they are not; 16 only where the output is short.
  few_pairs : n ≤ limit → writing limit over g room b ≡ written room b
  unfolding writing
  few_pairs h = choose_no _ _ (le-ltb limit n h)

  many_pairs : writing limit over g room b ≡ refusal over 0 → limit < n
  unfolding writing written choose
  many_pairs e = go (ltb limit n) (ltb room (length b)) refl e
    where
      go : (t u : Bool) → ltb limit n ≡ t → choose t (refusal over 0) (choose u (refusal 16 0) (wrote b)) ≡ refusal over 0 → limit < n
      go true u h e = ltb-true limit n h
      go false true h e = absurd (apart (sym (other e)))
      go false false h e = absurd (never_wrote e)

  short_room : writing limit over g room b ≡ refusal 16 0 → (n ≤ limit) × (room < length b)
  unfolding writing written choose
  short_room e = go (ltb limit n) (ltb room (length b)) refl refl e
    where
      go : (t u : Bool) → ltb limit n ≡ t → ltb room (length b) ≡ u → choose t (refusal over 0) (choose u (refusal 16 0) (wrote b)) ≡ refusal 16 0 → (n ≤ limit) × (room < length b)
      go true u h k e = absurd (apart (other e))
      go false true h k e = (ltb-false limit n h, ltb-true room (length b) k)
      go false false h k e = absurd (never_wrote e)

  writing_exact : Writes limit over g room b (writing limit over g room b)
  unfolding writing written
  writing_exact =
      record {
        written = λ c. (writing_wrote limit over g room b c, λ h. few_pairs h.0 ∙ choose_no _ _ (le-ltb room (length b) h.1) ∙ ap wrote h.2);
        over_limit = (many_pairs, λ h. choose_yes _ _ (lt-ltb limit n h));
        too_short = (short_room, λ h. few_pairs h.0 ∙ choose_yes _ _ (lt-ltb room (length b) h.1));
      }

apart : too_many ≡ 16 → ⊥
apart e = omega (arith, e)

told : {g : Given} {room : ℕ} {b : Bytes} {o p : Outcome} → p ≡ o → Writes max_pairs too_many g room b o → Writes max_pairs too_many g room b p
told {g} {room} {b} e w = subst (Writes max_pairs too_many g room b) (sym e) w

pub written_exactly : WritesExactly
unfolding answering serving outcome
written_exactly old new tests g e room = (
  told (ap (λ (x : Reading Given). outcome x (λ h. writing max_pairs too_many h room (sheet_bytes h))) e) (writing_exact max_pairs too_many apart g room (sheet_bytes g)),
  told (ap (λ (x : Reading Given). outcome x (λ h. writing max_pairs too_many h room (probes_bytes h))) e) (writing_exact max_pairs too_many apart g room (probes_bytes g)),
  λ i l. told (ap (λ (x : Reading Given). outcome x (λ h. recording max_pairs too_many h i room)) e ∙ choose_yes _ _ (lt-ltb i (test_count g.suite) l)) (writing_exact max_pairs too_many apart g room (record_bytes g i)),
)
