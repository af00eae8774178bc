-- The turns and the returns of every function, as one set.
use Rattle.after.proofs.Adding.{leaving, ons}
use Rattle.after.proofs.Returns.{noting}
use Rattle.after.proofs.Search.{searching}

pub ruleset all = (leaving, ons, noting, searching)
