-- Laws of writing a program back (document 02, job 1).
use Rattle.std.specs.Prelude.{◌≡◌, refl, ◌↔◌, ◌⊎◌, true, false, [], ◌∷◌, ◌++◌, ℕ, zero, suc, ◌+◌, ◌-◌, ◌≤◌, ◌<◌, length, get_or, take, drop}
use Rattle.std.proofs.Common.{sym, ap, ◌∙◌, inl, inr, ⊎_elim, true≢false, append_assoc, arith, length-append, ext_get_or}
use borrow.Author.Tests.{eqb-true, eq-eqb, lt-ltb, le-leb, leb-true, ltb-true}
use Rattle.laws.specs.TestLaws.{and_both, and_left, and_right, any_at, any_of_lem, eqb_self, every_at, every_of, implied, implies, or_cases, or_left, or_right}
use Rattle.laws.specs.Slices.{get_d_part, length_part}
use Rattle.rules.specs.Text.{Bytes, Reading, accepted, max_bytes}
use Rattle.rules.specs.Graph.{Program, callee_at, edge_count, label_at, name_at, node_count, proc_count, word_at}
use Rattle.rules.specs.ProgramFile.{Listing, read_listing, read_program}
use Rattle.rules.specs.Job.{Given, answering, by_side, outcome, program_answer, refusal, serving, writing_back, written, wrote}
use Rattle.rules.specs.Layout.{write_program}
use Rattle.rules.specs.Places.{Part}
use Rattle.rules.specs.WriteBack.{SameParts, callee_start, in_part, label_start, name_start, of_parts, other_alone, word_start}
use Rattle.rules.specs.Promises.{BackExactly}
use Rattle.rules.proofs.JobLaws.{known, outcome_wrote, written_wrote}
use Rattle.rules.proofs.Places.{listing_placed, part_is}
use Rattle.rules.proofs.WriteProgram.{accepted_follows}

-- An accepted text, read and written back, is unchanged.
pub back_unchanged : (text : Bytes) (p : Program) → read_program text ≡ accepted p → write_program p ≡ text
back_unchanged text p e = sym (accepted_follows text p e).1

-- A text differs from itself in no byte.
pub other_self : (text : Bytes) (s : Listing) → other_alone text text s ≡ true
unfolding other_alone
other_self text s = and_both (eqb_self (length text)) (every_of _ (length text) (λ i h. implies _ _ (λ t. eqb_self (get_or text i 0))))

-- ---- names, labels, callees and words are in both texts

part_ends : (t : Bytes) (i : ℕ) (w : Bytes) → Part t i w → i + length w ≤ length t
part_ends t i w p = omega (arith, simp length-append at (ap length p.text_is), p.offset)

part_behind : (t : Bytes) (i : ℕ) (a b : Bytes) → Part t i (a ++ (44 ∷ b)) → Part t (i + length a + 1) b
part_behind t i a b p =
    record {
      front = p.front ++ (a ++ (44 ∷ []));
      back = p.back;
      text_is = p.text_is ∙ simp append_assoc;
      offset = omega (arith, length-append p.front (a ++ (44 ∷ [])), length-append a (44 ∷ []), p.offset);
    }

in_part_lem : (start : ℕ) (w : Bytes) (i : ℕ) → i < length w → in_part start w (start + i) ≡ true
unfolding in_part
in_part_lem start w i h = and_both (le-leb start (start + i) (omega arith)) (lt-ltb (start + i) (start + length w) (omega arith))

module _ (text t : Bytes) (s : Listing) (alone : other_alone text t s ≡ true) where
  same_length : length t ≡ length text
  unfolding other_alone
  same_length = eqb-true _ _ (and_left _ _ alone)

  agree : (i : ℕ) → i < length t → of_parts s i ≡ true → get_or text i 0 ≡ get_or t i 0
  unfolding other_alone
  agree i h o = eqb-true _ _ (implied _ _ (every_at _ (length t) (and_right _ _ alone) i h) o)

  -- A part of t whose bytes are all of parts stands in the text too.
  part_in : (start : ℕ) (w : Bytes) → Part t start w → ((i : ℕ) → i < length w → of_parts s (start + i) ≡ true) → take (length w) (drop start text) ≡ w
  part_in start w p h =
      let b = part_ends t start w p in
      let long : length (take (length w) (drop start text)) ≡ length w = length_part text start (length w) (omega (arith, same_length)) in
      ext_get_or 0 (take (length w) (drop start text)) w long
      (λ i c.
      get_d_part text start (length w) i 0 (omega arith) ∙ agree (start + i) (omega arith) (h i (omega arith)) ∙ sym (get_d_part t start (length w) i 0 (omega arith))
      ∙ ap (λ (r : Bytes). get_or r i 0) (part_is t start w p))

  module _ (e : read_listing t ≡ accepted s) where
    name_in : (q : ℕ) → q < proc_count s.program → take (length (name_at s.program q)) (drop (name_start s q) text) ≡ name_at s.program q
    unfolding of_parts
    name_in q h = part_in (name_start s q) (name_at s.program q) ((listing_placed t s e).names.parts q h) (λ i b. or_left _ (any_of_lem _ (proc_count s.program) q h (in_part_lem _ _ i b)))

    label_in_lem : (n : ℕ) → n < node_count s.program → take (length (label_at s.program n)) (drop (label_start s n) text) ≡ label_at s.program n
    unfolding of_parts
    label_in_lem n h =
        part_in (label_start s n) (label_at s.program n) ((listing_placed t s e).labels.parts n h)
        (λ i b. or_right _ (or_left _ (any_of_lem _ (node_count s.program) n h (or_left _ (in_part_lem _ _ i b)))))

    callee_in_lem : (n : ℕ) → n < node_count s.program → take (length (callee_at s.program n)) (drop (callee_start s n) text) ≡ callee_at s.program n
    unfolding of_parts
    callee_in_lem n h =
        part_in (callee_start s n) (callee_at s.program n) (part_behind t (label_start s n) (label_at s.program n) (callee_at s.program n) ((listing_placed t s e).callees.parts n h))
        (λ i b. or_right _ (or_left _ (any_of_lem _ (node_count s.program) n h (or_right _ (in_part_lem _ _ i b)))))

    word_in : (x : ℕ) → x < edge_count s.program → take (length (word_at s.program x)) (drop (word_start s x) text) ≡ word_at s.program x
    unfolding of_parts
    word_in x h =
        part_in (word_start s x) (word_at s.program x) ((listing_placed t s e).words.parts x h) (λ i b. or_right _ (or_right _ (any_of_lem _ (edge_count s.program) x h (in_part_lem _ _ i b))))

-- Two texts that have w at its place agree there.
parts_agree : (text t : Bytes) (start : ℕ) (w : Bytes) (i : ℕ) → in_part start w i ≡ true → take (length w) (drop start text) ≡ w → take (length w) (drop start t) ≡ w → get_or text i 0 ≡ get_or t i 0
unfolding in_part
parts_agree text t start w i h a b =
    let l : start ≤ i = leb-true start i (and_left _ _ h) in
    let m : i < start + length w = ltb-true i (start + length w) (and_right _ _ h) in
    let q : start + (i - start) ≡ i = omega arith in
    ap (λ (j : ℕ). get_or text j 0) (sym q) ∙ sym (get_d_part text start (length w) (i - start) 0 (omega arith)) ∙ ap (λ (r : Bytes). get_or r (i - start) 0) (a ∙ sym b)
    ∙ get_d_part t start (length w) (i - start) 0 (omega arith) ∙ ap (λ (j : ℕ). get_or t j 0) q

module _ (text t : Bytes) (s : Listing) (e : read_listing t ≡ accepted s) where
  parts_there : other_alone text t s ≡ true → SameParts text t s
  parts_there a = record { long = same_length text t s a; names = name_in text t s a e; labels = label_in_lem text t s a e; callees = callee_in_lem text t s a e; words = word_in text t s a e }

agree_parts : (text t : Bytes) (s : Listing) → SameParts text t s → SameParts t t s → (i : ℕ) → of_parts s i ≡ true → get_or text i 0 ≡ get_or t i 0
unfolding of_parts
agree_parts text t s p o i h =
    ⊎_elim
    (λ a. let q = any_at _ (proc_count s.program) a in parts_agree text t _ _ i q.2 (p.names q.0 q.1) (o.names q.0 q.1))
    (λ a.
    ⊎_elim
    (λ b.
    let n = any_at _ (node_count s.program) b in
    ⊎_elim (λ c. parts_agree text t _ _ i c (p.labels n.0 n.1) (o.labels n.0 n.1)) (λ c. parts_agree text t _ _ i c (p.callees n.0 n.1) (o.callees n.0 n.1)) (or_cases _ _ n.2))
    (λ b. let x = any_at _ (edge_count s.program) b in parts_agree text t _ _ i x.2 (p.words x.0 x.1) (o.words x.0 x.1))
    (or_cases _ _ a))
    (or_cases _ _ h)

alone_of : (text t : Bytes) (s : Listing) → length t ≡ length text → ((i : ℕ) → of_parts s i ≡ true → get_or text i 0 ≡ get_or t i 0) → other_alone text t s ≡ true
unfolding other_alone
alone_of text t s l h = and_both (eq-eqb _ _ l) (every_of _ (length t) (λ i b. implies _ _ (λ o. eq-eqb _ _ (h i o))))

-- A text differs from another in other bytes alone exactly if it is as long and has the names, labels, callees and words at their places.
pub alone_by_parts : (text t : Bytes) (s : Listing) → read_listing t ≡ accepted s → (other_alone text t s ≡ true) ↔ SameParts text t s
alone_by_parts text t s e = (parts_there text t s e, λ p. alone_of text t s p.long (agree_parts text t s p (parts_there t t s e (other_self t s))))

-- ---- the call

-- What is written back is the program of that side.
pub by_side_lem : (g : Given) (side room : ℕ) (b : Bytes) → writing_back g side room ≡ wrote b → ((side ≡ 0) × (write_program g.old ≡ b)) ⊎ ((side ≡ 1) × (write_program g.new ≡ b))
unfolding writing_back by_side
by_side_lem g zero room b h = inl (refl, (written_wrote room _ b h).1)
by_side_lem g (suc zero) room b h = inr (refl, (written_wrote room _ b h).1)
by_side_lem g (suc (suc n)) room b h = absurd (true≢false (let z : true ≡ false = cc in z))

program_short : (text : Bytes) (p : Program) → read_program text ≡ accepted p → length (write_program p) ≤ max_bytes
program_short text p e = (accepted_follows text p e).0.few_bytes

-- It has at most 65,536 bytes.
pub back_short : (old new tests : Bytes) (side room : ℕ) (b : Bytes) → program_answer old new tests side room ≡ wrote b → length b ≤ max_bytes
unfolding answering serving
back_short old new tests side room b h =
    let u = outcome_wrote _ _ _ h in
    let k = known old new tests u.0 u.1 in
    ⊎_elim (λ s. omega (arith, ap length s.1, program_short old u.0.old k.reads_old)) (λ s. omega (arith, ap length s.1, program_short new u.0.new k.reads_new))
    (by_side_lem u.0 side room b u.2)

-- There is no other side.
pub other_side : (g : Given) (side room : ℕ) → 1 < side → writing_back g side room ≡ refusal 6 0
unfolding writing_back by_side
other_side g zero room h = absurd (let z : ⊥ = omega arith in z)
other_side g (suc zero) room h = absurd (let z : ⊥ = omega arith in z)
other_side g (suc (suc n)) room h = refl

-- It is the text of that side, and it is written wherever the output is not too short.
pub programs_back : BackExactly
unfolding answering serving writing_back by_side outcome
programs_back old new tests g r room =
    let k = known old new tests g r in
    let at : (side : ℕ) → program_answer old new tests side room ≡ writing_back g side room = λ side. ap (λ (a : Reading Given). outcome a (λ x. writing_back x side room)) r in
    record {
      old_back = at 0 ∙ ap (written room) (back_unchanged old g.old k.reads_old);
      new_back = at 1 ∙ ap (written room) (back_unchanged new g.new k.reads_new);
      no_side = λ side h. at side ∙ other_side g side room h;
    }
