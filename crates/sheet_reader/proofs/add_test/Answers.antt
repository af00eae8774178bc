use borrow.Author.Rules.{rules}
use Rattle.sheet_reader.proofs.Steps.{test_bit, test_next, test_unfit, test_more, test_small}
use Rattle.sheet_reader.proofs.add_test.Goals as goal

pub returns-then-not-underway : goal.returns-then-not-underway
returns-then-not-underway c = record { adds = test_unfit _ _ _ _ _ _ _ _ c.is_name.ensures (search rules) _ c.in-Some.ensures _ c.underway.ensures _ _ (search rules) c.wrong-then-not-underway.ensures; small = tt }

pub overflow_add-i : goal.overflow_add-i
overflow_add-i c = search (test_bit _ _ _ _ _ _ c.in-Some.ensures c.requires.count_bound.0, rules)

pub overflow_add-result-2 : goal.overflow_add-result-2
overflow_add-result-2 c = search (test_next _ _ _ _ _ _ c.in-Some.ensures c.requires.count_bound.0, rules)

pub returns : goal.returns
returns c =
    let few = c.requires.count_bound.0 in
    record {
      adds = test_more _ _ _ _ _ _ _ _ c.is_name.ensures (search rules) _ c.in-Some.ensures _ c.underway.ensures few _ (search rules) (search rules) c.set_bit.ensures;
      small = test_small _ _ _ c.args.n _ _ c.args.sets.now _ c.is_name.ensures (search rules) _ c.in-Some.ensures _ c.underway.ensures few c.requires.small;
    }
