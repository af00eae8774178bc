-- The kinds of node: those of the code and those of the rules, and the kind that a line's fields name.
use Rattle.std.specs.Prelude.{◌≡◌, refl, ◌<◌, ℕ, Option, Some, None, Result, MatchResult}
use Rattle.laws.specs.Tests.{after, choose}
use Rattle.rules.specs.Text.{Bytes}
use Rattle.rules.specs.Graph.{E, S, C, X, kind_number}
use Rattle.rules.specs.Graph as Graph
use Rattle.rules.specs.ProgramFile.{kind_of, is_node}
use Rattle.lines.specs.declared.Kind.{Kind}
use Rattle.lines.specs.declared.Kind.TheVariants.{Entry, Step, Call, Exit}
use Rattle.lines.specs.declared.NoKind.{NoKind}

-- A kind of the code, as the rules have it.
abbrev pub kind_meant : Kind → Graph.Kind
kind_meant Entry = E
kind_meant Step = S
kind_meant Call = C
kind_meant Exit = X

-- Its number.
abbrev pub kind_code : Kind → ℕ
kind_code k = kind_number (kind_meant k)

-- A kind of the rules, as the code has it.
abbrev pub kind_coded : Graph.Kind → Kind
kind_coded E = Entry
kind_coded S = Step
kind_coded C = Call
kind_coded X = Exit

pub coded_meant : (k : Graph.Kind) → kind_meant (kind_coded k) ≡ k
coded_meant E = refl
coded_meant S = refl
coded_meant C = refl
coded_meant X = refl

pub meant_coded : (k : Kind) → kind_coded (kind_meant k) ≡ k
meant_coded Entry = refl
meant_coded Step = refl
meant_coded Call = refl
meant_coded Exit = refl

-- A number gives the kind that has it, or itself, where no kind has it.
abbrev pub Decodes : ℕ → Result Kind NoKind → Type 0
Decodes n r = MatchResult r (λ k. kind_code k ≡ n) (λ e. (e.0 ≡ n) × (3 < n))

-- The kind that the kind field names, where label and callee field are those of a node of this kind.
unfoldable pub node_kind : Bytes → Bytes → Bytes → Option Kind
node_kind kind label callee = after (kind_of kind) None (λ k. choose (is_node k label callee) (Some (kind_coded k)) None)
