-- How a program runs: meanings, configurations, steps, the edges crossed, and where a run has ended.
use Rattle.std.specs.Prelude.{◌≡◌, Bool, true, false, List, [], ◌∷◌, ◌++◌, ℕ, zero, suc, ltb}
use Rattle.std.proofs.Math.Option.{Option, none, some}
use Rattle.laws.specs.Tests.{after, choose, has}
use Rattle.rules.specs.Text.{Bytes, same_label}
use Rattle.rules.specs.Graph.{Kind, E, S, C, X, Program, kind_at, label_at, target_at, entry, callee_count, called, edge_taken, its_edge}

-- A meaning gives, for each label and state, the next state, an output and a word. Labels that match (Text.same_label) have equal actions.
pub record Meaning {ℓ κ} (St : Type ℓ) (Out : Type κ) : Type (ℓ ⊔ κ) where
  pub next : Bytes → St → St
  pub out : Bytes → St → Out
  pub word : Bytes → St → Bytes
  pub matching : (l l' : Bytes) → same_label l l' ≡ true → (s : St) → (next l s ≡ next l' s) × (out l s ≡ out l' s) × (word l s ≡ word l' s)

-- An open call: its C node, and which of its callees is running.
abbrev pub OpenCall : Type 0
OpenCall = ℕ × ℕ

-- What a run keeps: the node it stands on, the word chosen there, the open calls, newest first, the state, and the outputs in order.
pub record Config {ℓ κ} (St : Type ℓ) (Out : Type κ) : Type (ℓ ⊔ κ) where
  pub node : ℕ
  pub word : Option Bytes
  pub calls : List OpenCall
  pub state : St
  pub outs : List Out

-- The list of the one number, if there is one.
unfoldable pub list_of : Option ℕ → List ℕ
list_of none = []
list_of (some e) = e ∷ []

-- The call k has a callee after the one that is running.
unfoldable pub another : Program → OpenCall → Bool
another p k = ltb (suc k.1) (callee_count p k.0)

-- The edge that the step crosses, if it crosses one.
unfoldable pub edge_ahead : Program → Kind → Option Bytes → List OpenCall → ℕ → Option ℕ
edge_ahead p E w calls n = its_edge p n
edge_ahead p S none calls n = none
edge_ahead p S (some w) calls n = edge_taken p n w
edge_ahead p C w calls n = none
edge_ahead p X w [] n = none
edge_ahead p X w (k ∷ calls) n = choose (another p k) none (its_edge p k.0)

-- The run has ended: it stands on an X with no call open.
unfoldable pub ended_at : Kind → List OpenCall → Bool
ended_at E calls = false
ended_at S calls = false
ended_at C calls = false
ended_at X [] = true
ended_at X (k ∷ calls) = false

module _ {ℓ κ} {St : Type ℓ} {Out : Type κ} where
  -- On the node n with no word and these calls open.
  abbrev pub standing : ℕ → List OpenCall → Config St Out → Config St Out
  standing n calls c = record { node = n; word = none; calls = calls; state = c.state; outs = c.outs }

  -- After the action of the label l.
  abbrev pub acted : Meaning St Out → Bytes → Config St Out → Config St Out
  acted m l c =
      record {
        node = c.node;
        word = some (m.word l c.state);
        calls = c.calls;
        state = m.next l c.state;
        outs = c.outs ++ (m.out l c.state ∷ []);
      }

  -- Across the edge, if there is one, with these calls open.
  abbrev pub across : Program → List OpenCall → Config St Out → Option ℕ → Option (Config St Out)
  across p calls c none = none
  across p calls c (some e) = some (standing (target_at p e) calls c)

  -- A run starts on the entry of the first procedure, with no word, call or output.
  unfoldable pub start : Program → St → Config St Out
  start p s = record { node = entry p 0; word = none; calls = []; state = s; outs = [] }

  -- On the entry of the callee i of the C node n, that call open before these.
  abbrev pub calling : Program → ℕ → ℕ → List OpenCall → Config St Out → Config St Out
  calling p n i calls c = standing (entry p (called p n i)) ((n, i) ∷ calls) c

  -- The five rules, by the node's kind, the word and the open calls. An exit leads to the next callee's entry, that call staying open; after the last it closes the call.
  unfoldable pub step_at : Program → Meaning St Out → Kind → Option Bytes → List OpenCall → Config St Out → Option (Config St Out)
  step_at p m E w calls c = across p calls c (its_edge p c.node)
  step_at p m S none calls c = some (acted m (label_at p c.node) c)
  step_at p m S (some w) calls c = across p calls c (edge_taken p c.node w)
  step_at p m C none calls c = some (acted m (label_at p c.node) c)
  step_at p m C (some w) calls c = some (calling p c.node 0 calls c)
  step_at p m X w [] c = none
  step_at p m X w (k ∷ calls) c = choose (another p k) (some (calling p k.0 (suc k.1) calls c)) (across p calls c (its_edge p k.0))

  -- One step; none where the run has ended or stopped.
  unfoldable pub step : Program → Meaning St Out → Config St Out → Option (Config St Out)
  step p m c = step_at p m (kind_at p c.node) c.word c.calls c

  -- The edge that the step from here crosses.
  unfoldable pub crossing : Program → Config St Out → Option ℕ
  crossing p c = edge_ahead p (kind_at p c.node) c.word c.calls c.node

  -- Where k steps lead, if the run takes so many.
  unfoldable pub run : Program → Meaning St Out → ℕ → Config St Out → Option (Config St Out)
  run p m zero c = some c
  run p m (suc k) c = after (step p m c) none (λ d. run p m k d)

  -- The edges crossed in the first k steps, in order.
  unfoldable pub trail : Program → Meaning St Out → ℕ → Config St Out → List ℕ
  trail p m zero c = []
  trail p m (suc k) c = after (step p m c) [] (λ d. list_of (crossing p c) ++ trail p m k d)

  -- The run has ended here.
  unfoldable pub ended : Program → Config St Out → Bool
  ended p c = ended_at (kind_at p c.node) c.calls

  -- A program's run, for a meaning and a starting state, ends; it crosses the edge e.
  abbrev pub Ends : Program → Meaning St Out → St → Type (ℓ ⊔ κ)
  Ends p m s = (k : ℕ) × (c : Config St Out) × (run p m k (start p s) ≡ some c) × (ended p c ≡ true)

  abbrev pub Crosses : Program → Meaning St Out → St → ℕ → Type 0
  Crosses p m s e = (k : ℕ) × (has (trail p m k (start p s)) e ≡ true)
