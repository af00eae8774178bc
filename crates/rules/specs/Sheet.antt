-- Sheets, lists of probes and record lines: how they are written, and what reading a sheet answers (refusals 1, 2, 4, 11).
use Rattle.std.specs.Prelude.{Bool, true, false, List, [], ◌∷◌, ◌++◌, map, ℕ, zero, suc, eqb, leb, ltb, length, get_or}
use Rattle.std.proofs.Math.Option.{Option}
use Rattle.laws.specs.Tests.{◌and◌, ◌or◌, isnt, first, count, all_pairs, after, choose, none?}
use Rattle.rules.specs.Text.{Bytes, same, bytes, lines_of, fields_of, commas, text_of, is_name, is_number, value, decimal, Reading, refused, accepted, unless, read_text}
use Rattle.rules.specs.Graph.{Program, node_count, edge_count}
use Rattle.rules.specs.SuiteFile.{Suite, test_count, test_name}
use Rattle.rules.specs.Closing.{Coverage, holds, Mark, mark_0, mark_1, mark_?, mark, dangers, pairs, probes, repeated}

-- What a sheet claims: pairs, dangerous old edges, and tests to repeat, by number.
pub record Sheet : Type 0 where
  pub M : List (ℕ × ℕ)
  pub D : List ℕ
  pub R : List ℕ

-- The sheet that the selector writes.
unfoldable pub selected : Program → Program → List Coverage → Sheet
selected old new suite = record { M = pairs old new; D = dangers old new; R = repeated old new suite }

-- ---- writing

-- The lines of a sheet.
abbrev pub head_text : Bytes
head_text = bytes "sheet,1"

unfoldable pub m_text : ℕ → ℕ → Bytes
m_text n k = commas (bytes "M" ∷ decimal n ∷ decimal k ∷ [])

unfoldable pub d_text : ℕ → Bytes
d_text e = commas (bytes "D" ∷ decimal e ∷ [])

unfoldable pub r_text : Bytes → Bytes
r_text name = commas (bytes "R" ∷ name ∷ [])

unfoldable pub end_text : ℕ → ℕ → ℕ → Bytes
end_text m d r = commas (bytes "end" ∷ decimal m ∷ decimal d ∷ decimal r ∷ [])

-- A sheet's lines, for the tests of these names; its text.
unfoldable pub sheet_lines : List Bytes → Sheet → List Bytes
sheet_lines names s =
    head_text
    ∷ (map (λ x. m_text x.0 x.1) s.M
    ++ (map d_text s.D ++ (map (λ i. r_text (get_or names i [])) s.R ++ (end_text (length s.M) (length s.D) (length s.R) ∷ []))))

unfoldable pub sheet_text : List Bytes → Sheet → Bytes
sheet_text names s = text_of (sheet_lines names s)

-- A line `Q,edge`; the lines of the new edges that need a probe, ascending, as a text.
unfoldable pub q_text : ℕ → Bytes
q_text e = commas (bytes "Q" ∷ decimal e ∷ [])

unfoldable pub probes_text : Program → Program → Bytes
probes_text old new = text_of (map q_text (probes old new))

-- A mark's byte: `0`, `1` or `?`.
unfoldable pub mark_byte : Mark → ℕ
mark_byte mark_0 = 48
mark_byte mark_1 = 49
mark_byte mark_? = 63

-- One mark for each new edge, in order.
unfoldable pub marks_of : Program → Program → Coverage → ℕ → Bytes
marks_of old new coverage zero = []
marks_of old new coverage (suc n) = marks_of old new coverage n ++ (mark_byte (mark old new coverage n) ∷ [])

-- The number of ones: how many old edges were crossed.
unfoldable pub crossed : Program → Coverage → ℕ
crossed old coverage = count (edge_count old) (holds coverage)

-- A record line `V,name,crossed,marks`; with its byte 10.
unfoldable pub v_text : Bytes → ℕ → Bytes → Bytes
v_text name n marks = commas (bytes "V" ∷ name ∷ decimal n ∷ marks ∷ [])

unfoldable pub record_text : Program → Program → Bytes → Coverage → Bytes
record_text old new name coverage = text_of (v_text name (crossed old coverage) (marks_of old new coverage (edge_count new)) ∷ [])

-- The lines have this one. A test is left off a sheet that has no R line for it.
unfoldable pub among : List Bytes → Bytes → Bool
among [] l = false
among (m ∷ ls) l = same m l or among ls l

unfoldable pub left_off : Bytes → Bytes → Bool
left_off sheet name = isnt (among (lines_of sheet) (r_text name))

-- ---- reading

-- The five forms of a sheet's lines. Of numbers the bytes are kept.
pub data SheetLine : Type 0 where
  head_line : SheetLine
  m_line : Bytes → Bytes → SheetLine
  d_line : Bytes → SheetLine
  r_line : Bytes → SheetLine
  end_line : Bytes → Bytes → Bytes → SheetLine
  no_form : SheetLine

unfoldable pub sheet_form : List Bytes → SheetLine
sheet_form [] = no_form
sheet_form (f ∷ []) = no_form
sheet_form (f ∷ a ∷ []) =
    choose (same f (bytes "sheet") and same a (bytes "1")) head_line
    (choose (same f (bytes "D") and is_number a) (d_line a)
    (choose (same f (bytes "R") and is_name a) (r_line a) no_form))
sheet_form (f ∷ a ∷ b ∷ []) = choose (same f (bytes "M") and is_number a and is_number b) (m_line a b) no_form
sheet_form (f ∷ a ∷ b ∷ c ∷ []) = choose (same f (bytes "end") and is_number a and is_number b and is_number c) (end_line a b c) no_form
sheet_form (f ∷ a ∷ b ∷ c ∷ d ∷ ds) = no_form

-- What was read of a sheet: its first line, its claims so far, and its last line.
pub record SheetRead : Type 0 where
  pub opened : Bool
  pub claims : Sheet
  pub shut : Bool

abbrev pub no_sheet : SheetRead
no_sheet = record { opened = false; claims = record { M = []; D = []; R = [] }; shut = false }

-- The pair (n, k) stands before (a, b); every pair of the list does; every number of the list is below n.
unfoldable pub before : ℕ → ℕ → ℕ → ℕ → Bool
before a b n k = ltb n a or (eqb n a and ltb k b)

abbrev pub pairs_before : List (ℕ × ℕ) → ℕ → ℕ → Bool
pairs_before l a b = all_pairs (before a b) l

unfoldable pub all_below : List ℕ → ℕ → Bool
all_below [] n = true
all_below (x ∷ l) n = ltb x n and all_below l n

-- The number of the test of a name.
unfoldable pub test_of : Suite → Bytes → Option ℕ
test_of suite name = first (test_count suite) (λ i. same (test_name suite i) name)

-- The first line was read, and the last was not.
abbrev pub going : SheetRead → Bool
going s = s.opened and isnt s.shut

-- What was read, with the first line, a claim, or the last line more.
abbrev pub open_sheet : SheetRead → SheetRead
open_sheet s = record { opened = true; claims = s.claims; shut = s.shut }

abbrev pub add_m : ℕ → ℕ → SheetRead → SheetRead
add_m n k s = record { opened = s.opened; claims = record { M = s.claims.M ++ ((n, k) ∷ []); D = s.claims.D; R = s.claims.R }; shut = s.shut }

abbrev pub add_d : ℕ → SheetRead → SheetRead
add_d e s = record { opened = s.opened; claims = record { M = s.claims.M; D = s.claims.D ++ (e ∷ []); R = s.claims.R }; shut = s.shut }

abbrev pub add_r : ℕ → SheetRead → SheetRead
add_r i s = record { opened = s.opened; claims = record { M = s.claims.M; D = s.claims.D; R = s.claims.R ++ (i ∷ []) }; shut = s.shut }

abbrev pub shut_sheet : SheetRead → SheetRead
shut_sheet s = record { opened = s.opened; claims = s.claims; shut = true }

-- One line, numbered n. 4: an M line above the limit. 11: the line is not in its order, its number or name is none of the files', or the counts are wrong.
unfoldable pub take_sheet_line : ℕ → Program → Program → Suite → ℕ → SheetRead → SheetLine → Reading SheetRead
take_sheet_line limit old new suite n s head_line = unless s.opened 11 n (accepted (open_sheet s))
take_sheet_line limit old new suite n s (m_line a b) =
    let c : Sheet = s.claims in
    unless (leb limit (length c.M)) 4 n
    (unless (isnt (going s and none? c.D and none? c.R and ltb (value a) (node_count old) and ltb (value b) (node_count new) and pairs_before c.M (value a) (value b))) 11 n
    (accepted (add_m (value a) (value b) s)))
take_sheet_line limit old new suite n s (d_line e) =
    let c : Sheet = s.claims in
    unless (isnt (going s and none? c.R and ltb (value e) (edge_count old) and all_below c.D (value e))) 11 n
    (accepted (add_d (value e) s))
take_sheet_line limit old new suite n s (r_line name) =
    after (test_of suite name) (refused 11 n) (λ i.
    unless (isnt (going s and all_below s.claims.R i)) 11 n
    (accepted (add_r i s)))
take_sheet_line limit old new suite n s (end_line m d r) =
    let c : Sheet = s.claims in
    unless (isnt (going s and eqb (value m) (length c.M) and eqb (value d) (length c.D) and eqb (value r) (length c.R))) 11 n
    (accepted (shut_sheet s))
take_sheet_line limit old new suite n s no_form = refused 2 n

unfoldable pub step_sheet : ℕ → Program → Program → Suite → ℕ → ℕ → SheetRead → Bytes → Reading SheetRead
step_sheet limit old new suite n at s line = take_sheet_line limit old new suite n s (sheet_form (fields_of line))

-- A missing line counts as one past the last.
unfoldable pub finish_sheet : ℕ → SheetRead → Reading Sheet
finish_sheet n s = unless (isnt s.shut) 11 n (accepted s.claims)

-- Reading a sheet of at most `limit` pairs, for these programs and tests.
unfoldable pub read_sheet : ℕ → Program → Program → Suite → Bytes → Reading Sheet
read_sheet limit old new suite text = read_text (step_sheet limit old new suite) finish_sheet no_sheet text
