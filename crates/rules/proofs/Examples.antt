-- P1 to P8, the change requests of document 02, refusals, and runs, computed by the definitions from the texts to the bytes.
use Rattle.std.specs.Prelude.{◌≡◌, refl, Bool, true, false, eqb, List, [], ◌∷◌, ◌++◌, map, ℕ, zero, suc}
use Rattle.std.proofs.Math.Option.{Option, none, some}
use Prim.Native.String.{String}
use Rattle.laws.specs.Tests.{◌and◌, ◌or◌, ◌⇒◌, isnt, every, any, or_else, if_true, first, plus, count, those, has, any_of, some?, listed, all_pairs, any_pair, pick, grid_row, grid, first_failed, choose, none?, after}
use Rattle.laws.specs.Reach.{reached, spread, spreads}
use Rattle.rules.specs.Text.{Bytes, same, empty, bytes, max_bytes, then, unless, onto, split, join_by, text_of, between, all_bytes, name_byte, label_byte, word_byte, digit_byte, is_name, name_count, name_in, is_callees, is_label, is_word, is_number, non_empty, squeezed, same_label, value_from, digits, decimal, read_lines, read_text, Reading, accepted, refused}
use Rattle.rules.specs.Graph.{same_kind, or_zero, is_of, entry, exit, proc_of, leaves, edge_with, edge_taken, degree, worded, Program, edge_count, called}
use Rattle.rules.specs.ProgramFile.{Listing, kind_of, is_node, is_edge, form_of, has_edge, named, is_node_of, has_word, degree_fine, complete, lost, take_line, step_program, finish_program, read_listing, read_program}
use Rattle.rules.specs.SuiteFile.{test_form, hex_byte, hex_value, bits_of, none_set, row_fine, tested, take_test, step_suite, read_tests, read_suite}
use Rattle.rules.specs.Run.{Meaning, another, crossing, edge_ahead, ended, ended_at, list_of, run, start, step, step_at, trail}
use Rattle.rules.specs.After.{edges_after, resumes_at, goes_on_from, leads}
use Rattle.rules.specs.Closing.{takes, alike, fits, kept_by, both_call, fitted, exits_met, goes_on, joined, by_start, by_call, by_edge, follows, grown, dangerous_at, dangerous, closed, pairs, dangers, first_danger, meets, repeated, carries, carries_only, mark, same_callee, opposite, parting, parted, probes, after_dangers, carried_mark, endangered}
use Rattle.rules.specs.Sheet.{selected, m_text, d_text, r_text, end_text, sheet_lines, sheet_text, mark_byte, marks_of, crossed, v_text, record_text, q_text, probes_text, sheet_form, before, all_below, test_of, take_sheet_line, step_sheet, finish_sheet, read_sheet}
use Rattle.rules.specs.Check.{entered, edge_kept, edges_kept, rule1, rule2, rule3, rule4, rule5, broken}
use Rattle.rules.specs.Job.{Outcome, wrote, refusal, passed, outcome, read_job, written, writing, sheet_bytes, record_bytes, probes_bytes, sheet_answer, record_answer, probes_answer, judged, check_answer, label_part, by_side, writing_back, program_answer, serving, answering}
use Rattle.rules.specs.Layout.{line_of_edge, lines_of_those, line_of_node, line_of_proc, proc_lines, program_lines, write_program}
use Rattle.rules.specs.WriteBack.{in_part, of_parts, other_alone}
use Rattle.rules.specs.Former.{former_alike, former_rule2, former_broken, former_check_answer}
use Rattle.rules.proofs.Words.{meaning_by}

-- A job: the texts of the old program, the new one and the tests.
record Job : Type 0 where
  old : Bytes
  new : Bytes
  tests : Bytes

-- An example: what a call answers, and what the documents say.
abbrev pub Example : Type 0
Example = Outcome × Outcome

-- The two are equal; each of the list is answered so.
unfoldable pub same_outcome : Outcome → Outcome → Bool
same_outcome (wrote b) (wrote c) = same b c
same_outcome (wrote b) (refusal j q) = false
same_outcome (refusal k p) (wrote c) = false
same_outcome (refusal k p) (refusal j q) = eqb k j and eqb p q

unfoldable pub answered : List Example → Bool
answered [] = true
answered (x ∷ l) = same_outcome x.0 x.1 and answered l

-- The sheet that is written; the record line of the test i; the check of a sheet; the list of probes, into an output of `room` bytes.
writes : Job → String → Example
writes j sheet = (sheet_answer j.old j.new j.tests max_bytes, wrote (bytes sheet))

records : Job → ℕ → String → Example
records j i line = (record_answer j.old j.new j.tests i max_bytes, wrote (bytes line))

checks : Job → String → Outcome → Example
checks j sheet o = (check_answer j.old j.new j.tests (bytes sheet), o)

probing : Job → ℕ → Outcome → Example
probing j room o = (probes_answer j.old j.new j.tests room, o)

job : String → String → String → Job
job old new tests = record { old = bytes old; new = bytes new; tests = bytes tests }

-- The programs of the examples.
up : String
up = "P,up\nN,E,,\nN,X,,\nB,0,-,1\n"

layers : String
layers = "P,up\nN,E,,\nN,S,read layer,\nN,S,set speed,\nN,S,hold,\nN,X,,\nB,0,-,1\nB,1,up,2\nB,1,stop,3\nB,2,ok,1\nB,3,ok,4\n"

by_layer : String
by_layer = "P,up\nN,E,,\nN,S,read layer,\nN,S,set speed by layer,\nN,S,hold,\nN,X,,\nB,0,-,1\nB,1,up,2\nB,1,stop,3\nB,2,ok,1\nB,3,ok,4\n"

two_changes : String
two_changes = "P,up\nN,E,,\nN,S,read layer,\nN,S,set speed by layer,\nN,S,hold on,\nN,X,,\nB,0,-,1\nB,1,up,2\nB,1,stop,3\nB,2,ok,1\nB,3,ok,4\n"

halting : String
halting = "P,up\nN,E,,\nN,S,read layer,\nN,S,set speed,\nN,S,hold,\nN,X,,\nB,0,-,1\nB,1,up,2\nB,1,halt,3\nB,2,ok,1\nB,3,ok,4\n"

more : String
more = "P,up\nN,E,,\nN,S,read layer,\nN,S,set speed,\nN,S,hold,\nN,X,,\nB,0,-,1\nB,1,up,2\nB,1,stop,3\nB,2,ok,1\nB,3,ok,4\nB,3,more,1\n"

winds : String
winds = "P,up\nN,E,,\nN,S,wind,\nN,X,,\nB,0,-,1\nB,1,T,1\nB,1,F,2\n"

winds_twice : String
winds_twice = "P,up\nN,E,,\nN,S,wind,\nN,S,wind,\nN,X,,\nB,0,-,1\nB,1,T,2\nB,1,F,3\nB,2,T,1\nB,2,F,3\n"

calls_itself : String
calls_itself = "P,up\nN,E,,\nN,C,wind,up\nN,X,,\nB,0,-,1\nB,1,-,2\n"

returning : String
returning = "P,main\nN,E,,\nN,C,wind,sub\nN,X,,\nB,0,-,1\nB,1,-,2\nP,sub\nN,E,,\nN,X,,\nB,3,-,4\n"

blanks_moved : String
blanks_moved = "P,up\nN,E,,\nN,S,  read   layer,\nN,S,set speed ,\nN,S, ho ld,\nN,X,,\nB,0,-,1\nB,1,up,2\nB,1,stop,3\nB,2,ok,1\nB,3,ok,4\n"

one_blank : String
one_blank = "P,up\nN,E,,\nN,S, ,\nN,X,,\nB,0,-,1\nB,1,T,1\nB,1,F,2\n"

three_blanks : String
three_blanks = "P,up\nN,E,,\nN,S,   ,\nN,X,,\nB,0,-,1\nB,1,T,1\nB,1,F,2\n"

-- A call of several, of which the second may change, and what stands behind the call with it; and one of which the first may.
several : String
several = "P,main\nN,E,,\nN,C,wind,a+b+a+a\nN,X,,\nB,0,-,1\nB,1,-,2\nP,a\nN,E,,\nN,X,,\nB,3,-,4\nP,b\nN,E,,\nN,S,hold,\nN,X,,\nB,5,-,6\nB,6,ok,7\n"

several_stay : String
several_stay = "P,main\nN,E,,\nN,C,wind,a+b+a+a\nN,X,,\nB,0,-,1\nB,1,-,2\nP,a\nN,E,,\nN,X,,\nB,3,-,4\nP,b\nN,E,,\nN,S,stay,\nN,X,,\nB,5,-,6\nB,6,ok,7\n"

several_rest : String
several_rest = "P,main\nN,E,,\nN,C,wind,a+b+a+a\nN,S,rest,\nN,X,,\nB,0,-,1\nB,1,-,2\nB,2,ok,3\nP,a\nN,E,,\nN,X,,\nB,4,-,5\nP,b\nN,E,,\nN,S,stay,\nN,X,,\nB,6,-,7\nB,7,ok,8\n"

late : String
late = "P,main\nN,E,,\nN,C,wind,b+a\nN,X,,\nB,0,-,1\nB,1,-,2\nP,a\nN,E,,\nN,X,,\nB,3,-,4\nP,b\nN,E,,\nN,S,hold,\nN,X,,\nB,5,-,6\nB,6,ok,7\n"

late_stay : String
late_stay = "P,main\nN,E,,\nN,C,wind,b+a\nN,X,,\nB,0,-,1\nB,1,-,2\nP,a\nN,E,,\nN,X,,\nB,3,-,4\nP,b\nN,E,,\nN,S,stay,\nN,X,,\nB,5,-,6\nB,6,ok,7\n"

looping : String
looping = "P,up\nN,E,,\nN,S,a,\nN,S,b,\nN,X,,\nB,0,-,1\nB,1,go,2\nB,1,end,3\nB,2,ok,1\n"

not_looping : String
not_looping = "P,up\nN,E,,\nN,S,a,\nN,S,c,\nN,X,,\nB,0,-,1\nB,1,go,2\nB,1,end,3\nB,2,ok,3\n"

one_partner : String
one_partner = "P,up\nN,E,,\nN,S,r,\nN,S,a,\nN,S,b,\nN,X,,\nB,0,-,1\nB,1,x,2\nB,1,y,2\nB,2,ok,3\nB,3,ok,4\n"

two_partners : String
two_partners = "P,up\nN,E,,\nN,S,r,\nN,S,a,\nN,S,a,\nN,S,b,\nN,S,c,\nN,X,,\nB,0,-,1\nB,1,x,2\nB,1,y,3\nB,2,ok,4\nB,3,ok,5\nB,4,ok,6\nB,5,ok,6\n"

onward : String
onward = "P,up\nN,E,,\nN,S,a,\nN,X,,\nB,0,-,1\nB,1,x,2\nB,1,y,1\n"

into_entry : String
into_entry = "P,up\nN,E,,\nN,S,a,\nN,X,,\nB,0,-,1\nB,1,x,0\nB,1,y,1\n"

winding : String
winding = "P,main\nN,E,,\nN,S,read,\nN,S,fast,\nN,C,ca,a+n+b\nN,C,cb,n\nN,X,,\nB,0,-,1\nB,1,up,2\nB,1,by,4\nB,2,ok,3\nB,3,-,5\nB,4,-,5\nP,a\nN,E,,\nN,X,,\nB,6,-,7\nP,n\nN,E,,\nN,C,loop,n\nN,X,,\nB,8,-,9\nB,9,-,10\nP,b\nN,E,,\nN,X,,\nB,11,-,12\n"

winding_slow : String
winding_slow = "P,main\nN,E,,\nN,S,read,\nN,S,slow,\nN,C,ca,a+n+b\nN,C,cb,n\nN,X,,\nB,0,-,1\nB,1,up,2\nB,1,by,4\nB,2,ok,3\nB,3,-,5\nB,4,-,5\nP,a\nN,E,,\nN,X,,\nB,6,-,7\nP,n\nN,E,,\nN,C,loop,n\nN,X,,\nB,8,-,9\nB,9,-,10\nP,b\nN,E,,\nN,X,,\nB,11,-,12\n"

behind : String
behind = "P,main\nN,E,,\nN,C,wind,a+b\nN,X,,\nB,0,-,1\nB,1,-,2\nP,a\nN,E,,\nN,X,,\nB,3,-,4\nP,b\nN,E,,\nN,S,hold,\nN,X,,\nB,5,-,6\nB,6,ok,7\n"

behind_slow : String
behind_slow = "P,main\nN,E,,\nN,C,wind,a+b\nN,X,,\nB,0,-,1\nB,1,-,2\nP,a\nN,E,,\nN,X,,\nB,3,-,4\nP,b\nN,E,,\nN,S,stay,\nN,X,,\nB,5,-,6\nB,6,ok,7\n"

two_dangers : String
two_dangers = "P,up\nN,E,,\nN,S,a,\nN,S,b,\nN,S,d,\nN,X,,\nB,0,-,1\nB,1,go,2\nB,1,end,4\nB,1,halt,3\nB,2,ok,1\nB,3,ok,4\n"

two_changed : String
two_changed = "P,up\nN,E,,\nN,S,a,\nN,S,c,\nN,S,f,\nN,X,,\nB,0,-,1\nB,1,go,2\nB,1,end,4\nB,1,halt,3\nB,2,ok,4\nB,3,ok,4\n"

never_back : String
never_back = "P,up\nN,E,,\nN,C,wind,up\nN,S,a,\nN,X,,\nB,0,-,1\nB,1,-,2\nB,2,ok,3\n"

never_back_changed : String
never_back_changed = "P,up\nN,E,,\nN,C,wind,up\nN,S,b,\nN,X,,\nB,0,-,1\nB,1,-,2\nB,2,ok,3\n"

-- A step with a branch for anything else, which stands before the other; with a third branch, to the same end; to another end, where it stands between them; the same with a name; and that
-- branch alone.
switching : String
switching = "P,up\nN,E,,\nN,S,read layer,\nN,S,hold,\nN,X,,\nB,0,-,1\nB,1,*,3\nB,1,up,2\nB,2,ok,3\n"

switching_stop : String
switching_stop = "P,up\nN,E,,\nN,S,read layer,\nN,S,hold,\nN,X,,\nB,0,-,1\nB,1,*,3\nB,1,up,2\nB,2,ok,3\nB,1,stop,3\n"

switching_down : String
switching_down = "P,up\nN,E,,\nN,S,read layer,\nN,S,hold,\nN,X,,\nB,0,-,1\nB,1,up,2\nB,1,*,3\nB,2,ok,3\nB,1,down,2\n"

switching_named : String
switching_named = "P,up\nN,E,,\nN,S,read layer,\nN,S,hold,\nN,X,,\nB,0,-,1\nB,1,stop,3\nB,1,up,2\nB,2,ok,3\n"

always : String
always = "P,up\nN,E,,\nN,S,read layer,\nN,X,,\nB,0,-,1\nB,1,*,2\n"

two_tests : String
two_tests = "T,t1,a8\nT,t2,f8\n"

-- P1 to P8, in their order.
p2 : Job
unfolding job layers by_layer two_tests
p2 = job layers by_layer two_tests

p3 : Job
unfolding job winds winds_twice
p3 = job winds winds_twice "T,long,e\nT,short,a\n"

pub examples : List Example
unfolding writes records checks job up layers by_layer halting more winds winds_twice calls_itself two_tests p2 p3
examples =
    writes (job up up "") "sheet,1\nM,0,0\nM,1,1\nend,2,0,0\n"
    ∷ writes p2 "sheet,1\nM,0,0\nM,1,1\nM,3,3\nM,4,4\nD,1\nR,t2\nend,4,1,1\n"
    ∷ records p2 0 "V,t1,3,10101\n"
    ∷ records p2 1 "V,t2,5,1????\n"
    ∷ writes p3 "sheet,1\nM,0,0\nM,1,1\nM,1,2\nM,2,3\nend,4,0,0\n"
    ∷ records p3 0 "V,long,3,1????\n"
    ∷ records p3 1 "V,short,2,10?0?\n"
    ∷ writes (job layers halting "") "sheet,1\nM,0,0\nM,1,1\nM,2,2\nD,2\nend,3,1,0\n"
    ∷ writes (job layers more "") "sheet,1\nM,0,0\nM,1,1\nM,2,2\nM,3,3\nM,4,4\nend,5,0,0\n"
    ∷ writes (job calls_itself calls_itself "") "sheet,1\nM,0,0\nM,1,1\nend,2,0,0\n"
    ∷ checks p2 "sheet,1\nM,0,0\nD,0\nR,t1\nR,t2\nend,1,1,2\n" passed
    ∷ checks p2 "sheet,1\nM,0,0\nM,1,1\nM,3,3\nM,4,4\nR,t2\nend,4,0,1\n" (refusal 12 4)
    ∷ []

-- ---- programs written back (document 02, job 1)

-- The program of a side, into an output of `room` bytes.
back : Job → ℕ → ℕ → Outcome → Example
back j side room o = (program_answer j.old j.new j.tests side room, o)

pub backs : List Example
unfolding back p2 job layers by_layer two_tests calls_itself up
backs =
    back p2 0 max_bytes (wrote (bytes layers))
    ∷ back p2 1 113 (wrote (bytes by_layer))
    ∷ back p2 1 112 (refusal 16 0)
    ∷ back p2 2 0 (refusal 6 0)
    ∷ back (job calls_itself up "") 0 max_bytes (wrote (bytes calls_itself))
    ∷ []

-- ---- blanks in labels (document 02, job 2)

-- The check with labels that match by their bytes.
formerly : Job → String → Outcome → Example
formerly j sheet o = (former_check_answer j.old j.new j.tests (bytes sheet), o)

-- The label of the node n that is shown of a program text.
shows : String → ℕ → String → Example
shows text n label = (outcome (read_listing (bytes text)) (λ s. wrote (label_part (record { text = bytes text; listing = s }) n)), wrote (bytes label))

p2_moved : Job
unfolding job layers blanks_moved two_tests
p2_moved = job layers blanks_moved two_tests

-- At both ends and in a row blanks count for nothing, within `hold` one does; a label of blanks only matches another such one. The sheet that was written passed and passes; the new one would not have passed. Files and
-- shown labels keep their blanks.
pub blanks : List Example
unfolding writes checks formerly back shows job p2_moved blanks_moved one_blank three_blanks
blanks =
    writes p2_moved "sheet,1\nM,0,0\nM,1,1\nM,2,2\nD,2\nR,t1\nR,t2\nend,3,1,2\n"
    ∷ formerly p2_moved "sheet,1\nM,0,0\nD,0\nR,t1\nR,t2\nend,1,1,2\n" passed
    ∷ checks p2_moved "sheet,1\nM,0,0\nD,0\nR,t1\nR,t2\nend,1,1,2\n" passed
    ∷ formerly p2_moved "sheet,1\nM,0,0\nM,1,1\nM,2,2\nD,2\nR,t1\nR,t2\nend,3,1,2\n" (refusal 12 2)
    ∷ writes (job one_blank three_blanks "") "sheet,1\nM,0,0\nM,1,1\nM,2,2\nend,3,0,0\n"
    ∷ back p2_moved 1 max_bytes (wrote (bytes blanks_moved))
    ∷ shows blanks_moved 1 "  read   layer"
    ∷ []

-- ---- several callees (document 02, job 3)

-- All callees met, one of them called three times; the second one's exits not met, so that the call does not go on: nothing is behind it, and its edge has no counterpart and is not
-- dangerous, though it leads elsewhere; the first one's not met, so that no later one is entered; the callees in another order. A check asks for the second one's entries only after the
-- first one's exits, and then it does; a file that has the callees is given back.
pub severals : List Example
unfolding writes checks records back job several several_stay several_rest late late_stay
severals =
    writes (job several several "T,t,f8\n") "sheet,1\nM,0,0\nM,1,1\nM,2,2\nM,3,3\nM,4,4\nM,5,5\nM,6,6\nM,7,7\nend,8,0,0\n"
    ∷ records (job several several "T,t,f8\n") 0 "V,t,5,11111\n"
    ∷ writes (job several several_stay "T,t,c0\nT,s,f8\n") "sheet,1\nM,0,0\nM,1,1\nM,3,3\nM,4,4\nM,5,5\nD,3\nR,s\nend,5,1,1\n"
    ∷ records (job several several_stay "T,t,c0\nT,s,f8\n") 0 "V,t,2,10000\n"
    ∷ writes (job several several_rest "") "sheet,1\nM,0,0\nM,1,1\nM,3,4\nM,4,5\nM,5,6\nD,3\nend,5,1,0\n"
    ∷ writes (job late late_stay "") "sheet,1\nM,0,0\nM,1,1\nM,5,5\nD,3\nend,3,1,0\n"
    ∷ writes (job several late "") "sheet,1\nM,0,0\nD,0\nend,1,1,0\n"
    ∷ checks (job several several "") "sheet,1\nM,0,0\nM,1,1\nM,3,3\nD,2\nend,3,1,0\n" passed
    ∷ checks (job several several "") "sheet,1\nM,0,0\nM,1,1\nM,3,3\nM,4,4\nend,4,0,0\n" (refusal 12 3)
    ∷ back (job several late "") 0 max_bytes (wrote (bytes several))
    ∷ []

-- Labels one by one: only byte 32 is a blank, one between two other bytes counts, and the longer label is compared to its end.
labels_compared : (same_label (bytes " set   speed") (bytes "set speed  ") ≡ true)
    × (same_label (bytes "set speed") (bytes "setspeed") ≡ false)
    × (same_label (bytes "set speed") (bytes "set\tspeed") ≡ false)
    × (same_label (bytes "set speed ") (bytes "set speed by layer") ≡ false)
    × (same_label (bytes " ") (bytes "   ") ≡ true)
    × (same_label (bytes "wind") (bytes " ") ≡ false)
unfolding same_label squeezed non_empty split onto join_by same empty choose ◌and◌
labels_compared = (refl, refl, refl, refl, refl, refl)

-- ---- the search for a dangerous edge in a row (document 02, job 4)

found_text : Option ℕ → Bytes
found_text none = bytes "none"
found_text (some e) = decimal e

-- What the search finds in the row of each test, a line each: an edge, or none.
finds : Job → String → Example
unfolding found_text
finds j lines = (
  outcome (read_job j.old j.new j.tests)
      (λ g. wrote (text_of (map (λ c. found_text (first_danger (edge_count g.old) (dangers g.old g.new) c)) g.suite.coverages))),
  wrote (bytes lines),
)

-- P2, whose only dangerous edge is 1; and with 1 and 2 dangerous: a row that holds 2 alone, both, 1 alone, and neither.
pub searches : List Example
unfolding finds p2 job layers by_layer two_changes two_tests
searches =
    finds p2 "none\n1\n"
    ∷ finds (job layers two_changes "T,t1,a8\nT,t2,f8\nT,t3,c0\nT,t4,80\n") "2\n1\n1\nnone\n"
    ∷ []

-- ---- probes, and marks of repeated tests (document 02, job 5)

-- P2, with an output that is just long enough and one that is not; P4, whose dangerous edge has no start, as its word is gone; a repeated test whose old run alone, or new run alone, comes
-- back past the change, and one left off that keeps its `1` where there is a probe; a danger at one of two partners; an edge that leads to an entry; a call that is entered at its first callee
-- alone, and not passed, an exit that leads to the next callee of that call alone, and a callee that never returns; an exit behind the last callee that leads to the call's edge alone; two
-- dangers, of which the row holds one; a call that may not go on, so that none starts behind it.
pub probings : List Example
unfolding probing records p2 job layers by_layer halting two_tests looping not_looping one_partner two_partners onward into_entry winding winding_slow behind behind_slow two_dangers two_changed never_back never_back_changed
probings =
    probing p2 16 (wrote (bytes "Q,1\nQ,2\nQ,3\nQ,4\n"))
    ∷ probing p2 15 (refusal 16 0)
    ∷ probing (job layers halting two_tests) 0 (wrote [])
    ∷ records (job layers halting two_tests) 1 "V,t2,5,11010\n"
    ∷ probing (job looping not_looping "") max_bytes (wrote (bytes "Q,1\nQ,3\n"))
    ∷ records (job looping not_looping "T,t0,f\nT,t1,a\nT,t2,d\n") 0 "V,t0,4,1???\n"
    ∷ records (job looping not_looping "T,t0,f\nT,t1,a\nT,t2,d\n") 2 "V,t2,3,1?0?\n"
    ∷ probing (job not_looping looping "") max_bytes (wrote (bytes "Q,1\nQ,2\nQ,3\n"))
    ∷ records (job not_looping looping "T,t0,f\nT,t1,a\nT,t2,d\n") 1 "V,t1,2,1010\n"
    ∷ records (job not_looping looping "T,t0,f\nT,t1,a\nT,t2,d\n") 2 "V,t2,3,1???\n"
    ∷ probing (job one_partner two_partners "") max_bytes (wrote (bytes "Q,4\nQ,6\n"))
    ∷ records (job one_partner two_partners "T,t5,10\n") 0 "V,t5,1,000??0?\n"
    ∷ probing (job onward into_entry "") max_bytes (wrote (bytes "Q,0\nQ,1\nQ,2\n"))
    ∷ probing (job winding winding_slow "") max_bytes (wrote (bytes "Q,1\nQ,3\nQ,6\nQ,7\n"))
    ∷ probing (job behind behind_slow "") max_bytes (wrote (bytes "Q,1\nQ,3\nQ,4\n"))
    ∷ records (job two_dangers two_changed "T,t,b0\n") 0 "V,t,3,1?????\n"
    ∷ probing (job never_back never_back_changed "") max_bytes (wrote [])
    ∷ []

-- ---- the branch for anything else (document 02, job 6)

-- An old word meets a new `*`; a word that neither names finds no new edge, so that there is a danger and no start; a new word is compared with the old `*`, which then is not dangerous and
-- has two counterparts, or is dangerous: the check asks for it, and the probe starts at that word's edge alone; two old words meet one new `*`, the one is dangerous, and the probe starts
-- there. An entry and a call have no `*`.
pub switches : List Example
unfolding writes checks records probing job switching switching_stop switching_down switching_named always
switches =
    writes (job switching_named switching "") "sheet,1\nM,0,0\nM,1,1\nM,2,2\nM,3,3\nend,4,0,0\n"
    ∷ writes (job switching switching_named "") "sheet,1\nM,0,0\nM,1,1\nM,2,2\nM,3,3\nD,1\nend,4,1,0\n"
    ∷ probing (job switching switching_named "") max_bytes (wrote [])
    ∷ writes (job switching switching_stop "") "sheet,1\nM,0,0\nM,1,1\nM,2,2\nM,3,3\nend,4,0,0\n"
    ∷ probing (job switching switching_stop "") max_bytes (wrote [])
    ∷ records (job switching switching_stop "T,t,c\n") 0 "V,t,2,1?00?\n"
    ∷ writes (job switching switching_down "") "sheet,1\nM,0,0\nM,1,1\nM,2,2\nM,3,3\nD,1\nend,4,1,0\n"
    ∷ checks (job switching switching_down "") "sheet,1\nM,0,0\nM,1,1\nM,2,2\nM,3,3\nend,4,0,0\n" (refusal 12 4)
    ∷ probing (job switching switching_down "") max_bytes (wrote (bytes "Q,3\nQ,4\n"))
    ∷ writes (job switching_named always "T,t,c\n") "sheet,1\nM,0,0\nM,1,1\nM,3,2\nD,2\nend,3,1,0\n"
    ∷ records (job switching_named always "T,t,c\n") 0 "V,t,2,11\n"
    ∷ probing (job switching_named always "") max_bytes (wrote (bytes "Q,1\n"))
    ∷ (check_answer (bytes "P,up\nN,E,,\nN,X,,\nB,0,*,1\n") [] [] [], refusal 8 1)
    ∷ (check_answer (bytes "P,up\nN,E,,\nN,C,wind,up\nN,X,,\nB,0,-,1\nB,1,*,2\n") [] [] [], refusal 8 1)
    ∷ []

-- ---- refusals

-- The text t, n times.
times : ℕ → Bytes → Bytes
times zero t = []
times (suc n) t = t ++ times n t

-- A program text alone: number and place, as a job's old program.
of_program : Bytes → Outcome
of_program text = check_answer text [] [] []

-- A test file, and a sheet, for P2's programs.
of_tests : String → Outcome
unfolding layers by_layer
of_tests tests = check_answer (bytes layers) (bytes by_layer) (bytes tests) []

of_sheet : String → Outcome
unfolding layers by_layer two_tests
of_sheet sheet = check_answer (bytes layers) (bytes by_layer) (bytes two_tests) (bytes sheet)

-- Refusals, with what is answered: 2 to 9 of programs, 1 and 4 by texts of 65,537 bytes and of 513 nodes; 2, 5 and 10 of tests; 2, 11 and 12 of sheets; 6 and 16 of the writers.
pub refusals : List Example
unfolding times of_program of_tests of_sheet layers by_layer returning two_tests
refusals =
    (of_program (times 65537 (10 ∷ [])), refusal 1 0)
    ∷ (of_program [], refusal 2 1)
    ∷ (of_program (bytes "P,a\nP,b"), refusal 2 2)
    ∷ (of_program (bytes "P,a\nP,b c\n"), refusal 2 2)
    ∷ (of_program (bytes "P,abcdefghijklm\n"), refusal 2 1)
    ∷ (of_program (bytes "P,a\nN,C,x,\n"), refusal 2 2)
    ∷ (of_program (bytes "P,a\nN,S," ++ (times 60 (bytes "x") ++ bytes " ,\n")), refusal 2 2)
    ∷ (of_program (bytes "P,a\nN,E,,\nB,00,-,0\n"), refusal 2 3)
    ∷ (of_program (bytes "N,E,,\n"), refusal 3 1)
    ∷ (of_program (bytes "P,a\nN,E,,\nN,X,,\nB,0,-,1\nN,S,x,\n"), refusal 3 5)
    ∷ (of_program (bytes "P,a\n" ++ times 513 (bytes "N,S,x,\n")), refusal 4 514)
    ∷ (of_program (bytes "P,a\nN,E,,\nN,X,,\nB,0,-,1\nP,a\n"), refusal 5 5)
    ∷ (of_program (bytes "P,a\nN,E,,\nN,X,,\nB,0,-,2\n"), refusal 6 4)
    ∷ (of_program (bytes "P,a\nN,E,,\nN,X,,\nB,18446744073709551616,-,1\n"), refusal 6 4)
    ∷ (of_program (bytes "P,a\nN,E,,\nN,X,,\nB,0,-,1\nB,0,-,0\n"), refusal 7 5)
    ∷ (of_program (bytes "P,a\nP,a\n"), refusal 8 1)
    ∷ (of_program (bytes "P,a\nN,E,,\nN,X,,\nB,0,x,1\n"), refusal 8 1)
    ∷ (of_program (bytes "P,up\nN,E,,\nN,C,wind,down\nN,X,,\nB,0,-,1\nB,1,-,2\n"), refusal 9 3)
    ∷ (of_program (bytes "P,up\nN,E,,\nN,C,wind,up+down\nN,C,hold,down\nN,X,,\nB,0,-,1\nB,1,-,2\nB,2,-,3\n"), refusal 9 3)
    ∷ (of_program (bytes "P,a\nN,C,x,a+b+a+b+a\n"), refusal 2 2)
    ∷ (of_program (bytes "P,a\nN,C,x,a+\n"), refusal 2 2)
    ∷ (of_tests "T,t1\n", refusal 2 1)
    ∷ (of_tests "T,t1,a8\nT,t1,f8\n", refusal 5 2)
    ∷ (of_tests "T,t1,a\n", refusal 10 1)
    ∷ (of_tests "T,t1,A8\n", refusal 10 1)
    ∷ (of_tests "T,t1,a1\n", refusal 10 1)
    ∷ (of_sheet "", refusal 11 1)
    ∷ (of_sheet "sheet,1\n", refusal 11 2)
    ∷ (of_sheet "sheet,1\nM,1,1\nM,0,0\nend,2,0,0\n", refusal 11 3)
    ∷ (of_sheet "sheet,1\nM,0,5\nend,1,0,0\n", refusal 11 2)
    ∷ (of_sheet "sheet,1\nR,t3\nend,0,0,1\n", refusal 11 2)
    ∷ (of_sheet "sheet,1\nend,1,0,0\n", refusal 11 2)
    ∷ (of_sheet "sheet,1\nend,0,0,0", refusal 2 2)
    ∷ (of_sheet "sheet,1\nend,0,0,0\n", refusal 12 1)
    ∷ (of_sheet "sheet,1\nM,0,0\nM,1,2\nend,2,0,0\n", refusal 12 2)
    ∷ (check_answer (bytes returning) (bytes returning) [] (bytes "sheet,1\nM,0,0\nM,1,1\nend,2,0,0\n"), refusal 12 3)
    ∷ (of_sheet "sheet,1\nM,0,0\nD,0\nend,1,1,0\n", refusal 12 5)
    ∷ (sheet_answer (bytes layers) (bytes by_layer) (bytes two_tests) 50, refusal 16 0)
    ∷ (record_answer (bytes layers) (bytes by_layer) (bytes two_tests) 2 max_bytes, refusal 6 0)
    ∷ (record_answer (bytes layers) (bytes by_layer) (bytes two_tests) 0 12, refusal 16 0)
    ∷ []

-- ---- the statement

-- The definitions answer P1 to P8, and the refusals, as document 01 says, and the change requests as document 02 does: one statement over their list, by computation.
pub examples_answered : answered (examples ++ (backs ++ (blanks ++ (severals ++ (searches ++ (probings ++ (switches ++ refusals))))))) ≡ true
unfolding answered same_outcome examples backs blanks severals searches probings switches refusals
    ◌and◌ ◌or◌ ◌⇒◌ isnt choose every any or_else if_true first plus count those has any_of some? listed all_pairs any_pair pick grid_row grid first_failed none?
    same empty onto split join_by text_of between all_bytes name_byte label_byte word_byte digit_byte is_name name_count name_in is_callees is_label is_word is_number value_from digits decimal then unless read_lines read_text
    same_kind or_zero is_of entry exit proc_of called leaves edge_with edge_taken degree worded
    kind_of is_node is_edge form_of has_edge named is_node_of has_word degree_fine complete lost take_line step_program finish_program read_listing read_program
    test_form hex_byte hex_value bits_of none_set row_fine tested take_test step_suite read_tests read_suite non_empty squeezed
    same_label same_callee takes opposite alike fits kept_by both_call fitted exits_met goes_on joined by_start by_call by_edge follows grown dangerous_at dangerous closed pairs dangers meets first_danger repeated carries carries_only spread spreads reached another resumes_at goes_on_from leads edges_after parted parting probes after_dangers carried_mark endangered mark
    selected m_text d_text r_text end_text sheet_lines sheet_text mark_byte marks_of crossed v_text record_text q_text probes_text sheet_form before all_below test_of take_sheet_line step_sheet finish_sheet read_sheet
    entered edge_kept edges_kept rule1 rule2 rule3 rule4 rule5 broken former_alike former_rule2 former_broken former_check_answer
    outcome read_job written writing sheet_bytes record_bytes probes_bytes judged serving answering
    line_of_edge lines_of_those line_of_node line_of_proc proc_lines program_lines write_program by_side writing_back label_part
examples_answered = refl

-- ---- runs

-- A meaning: the state counts actions, the output is the label without spare blanks, and the word is `stop` after `read layer` and else `ok`.
counting : Meaning ℕ Bytes
counting = meaning_by (λ l s. suc s) (λ l s. l) (λ l s. choose (same l (bytes "read layer")) (bytes "stop") (bytes "ok"))

-- After k steps from state 0: has the run ended, its state, its outputs, and the edges crossed; none where it takes fewer steps.
seen : ℕ → Program → Option (Bool × ℕ × List Bytes × List ℕ)
unfolding counting
seen k p = after (run p counting k (start p 0)) none (λ c. some (ended p c, c.state, c.outs, trail p counting k (start p 0)))

ran : ℕ → String → Option (Bool × ℕ × List Bytes × List ℕ)
unfolding seen
ran k text = opened (read_program (bytes text))
  where
    opened : Reading Program → Option (Bool × ℕ × List Bytes × List ℕ)
    opened (refused n p) = none
    opened (accepted p) = seen k p

-- Calls in calls, each of several, and a step without an edge for its word.
nested : String
nested = "P,up\nN,E,,\nN,C,wind,down+on\nN,X,,\nB,0,-,1\nB,1,-,2\nP,down\nN,E,,\nN,C,hold,low+on\nN,X,,\nB,3,-,4\nB,4,-,5\nP,low\nN,E,,\nN,C,stay,on+on\nN,X,,\nB,6,-,7\nB,7,-,8\nP,on\nN,E,,\nN,X,,\nB,9,-,10\n"

stopping : String
stopping = "P,up\nN,E,,\nN,S,hold,\nN,X,,\nB,0,-,1\nB,1,go,2\n"

-- P2's programs, the call that returns and the step that stops run as document 01 says: a run that has stopped takes no more steps and has not ended. Calls of several run as document 02
-- says, also in one another: an action is done once, each callee is entered as often as it is named, and an exit is that of the newest open call, which stays open until its last callee.
-- So does a step with `*`: its edge with the chosen word, or else that one.
runs_computed : (ran 5 layers ≡ some (true, 2, bytes "read layer" ∷ bytes "hold" ∷ [], 0 ∷ 2 ∷ 4 ∷ []))
    × (ran 5 by_layer ≡ some (true, 2, bytes "read layer" ∷ bytes "hold" ∷ [], 0 ∷ 2 ∷ 4 ∷ []))
    × (ran 5 returning ≡ some (true, 1, bytes "wind" ∷ [], 0 ∷ 2 ∷ 1 ∷ []))
    × (ran 19 nested ≡ some (true, 3, bytes "wind" ∷ bytes "hold" ∷ bytes "stay" ∷ [], 0 ∷ 2 ∷ 4 ∷ 6 ∷ 6 ∷ 5 ∷ 6 ∷ 3 ∷ 6 ∷ 1 ∷ []))
    × (ran 13 several ≡ some (true, 2, bytes "wind" ∷ bytes "hold" ∷ [], 0 ∷ 2 ∷ 3 ∷ 4 ∷ 2 ∷ 2 ∷ 1 ∷ []))
    × (ran 2 stopping ≡ some (false, 1, bytes "hold" ∷ [], 0 ∷ []))
    × (ran 3 stopping ≡ none)
    × (ran 3 switching ≡ some (true, 1, bytes "read layer" ∷ [], 0 ∷ 1 ∷ []))
    × (ran 3 switching_stop ≡ some (true, 1, bytes "read layer" ∷ [], 0 ∷ 4 ∷ []))
unfolding ran layers by_layer returning nested several stopping switching switching_stop run step step_at another start trail crossing edge_ahead list_of ended ended_at
    ◌and◌ ◌or◌ ◌⇒◌ isnt choose every any or_else if_true first plus count
    same empty onto split join_by non_empty squeezed between all_bytes name_byte label_byte word_byte digit_byte is_name name_count name_in is_callees is_label is_word is_number value_from then unless read_lines read_text
    same_kind or_zero is_of entry exit proc_of called leaves edge_with edge_taken degree worded
    kind_of is_node is_edge form_of has_edge named is_node_of has_word degree_fine complete lost take_line step_program finish_program read_listing read_program
runs_computed = (refl, refl, refl, refl, refl, refl, refl, refl, refl)

-- ---- other bytes than names, callees, labels and words (document 02, job 1)

-- The text differs from t, which is accepted, in other bytes alone.
alone : String → String → Bool
alone text t = opened (read_listing (bytes t))
  where
    opened : Reading Listing → Bool
    opened (refused n p) = false
    opened (accepted s) = other_alone (bytes text) (bytes t) s

-- All other bytes may differ, but no byte of a name, a label, a callee or a word; and the text is neither longer nor shorter.
alone_computed : (alone "xxupxxxxxxxxxxxwindxupxxxxxxxxxxx-xxxxxxx-xxx" calls_itself ≡ true)
    × (alone "xxu?xxxxxxxxxxxwindxupxxxxxxxxxxx-xxxxxxx-xxx" calls_itself ≡ false)
    × (alone "xxupxxxxxxxxxxxwin?xupxxxxxxxxxxx-xxxxxxx-xxx" calls_itself ≡ false)
    × (alone "xxupxxxxxxxxxxxwindx?pxxxxxxxxxxx-xxxxxxx-xxx" calls_itself ≡ false)
    × (alone "xxupxxxxxxxxxxxwindxupxxxxxxxxxxx-xxxxxxx?xxx" calls_itself ≡ false)
    × (alone "xxupxxxxxxxxxxxwindxupxxxxxxxxxxx-xxxxxxx-xxxx" calls_itself ≡ false)
    × (alone "xxupxxxxxxxxxxxwindxupxxxxxxxxxxx-xxxxxxx-xx" calls_itself ≡ false)
unfolding alone calls_itself other_alone of_parts in_part
    ◌and◌ ◌or◌ ◌⇒◌ isnt choose every any or_else if_true first plus count
    same empty onto split between all_bytes name_byte label_byte word_byte digit_byte is_name name_count name_in is_callees is_label is_word is_number value_from then unless read_lines read_text
    same_kind or_zero is_of entry exit proc_of called leaves edge_with edge_taken degree worded
    kind_of is_node is_edge form_of has_edge named is_node_of has_word degree_fine complete lost take_line step_program finish_program read_listing
alone_computed = (refl, refl, refl, refl, refl, refl, refl)
