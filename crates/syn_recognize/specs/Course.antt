-- COURSES: what plans as data denote, without their values. A course ends in the forms that are left once it is decided whether the tokens
-- are stored verbatim.
use Rattle.syn_grammar.specs.Tokens.{Look}
use Rattle.syn_grammar.specs.Grammar.{Grammar}

pub data Course : Type 0 where
  reads : Grammar → Course → Course  -- reads this form
  turns : Look → Course → Course → Course  -- selects by the lookahead
  rooted : Course → Course → Course  -- reads trees of a use in braces; selects by whether one of them has `::` before it
  followed : Course → Grammar → Course  -- followed by this form
  rest : Grammar → Course  -- of a kind: the rest
  kept : Grammar → Course  -- stored verbatim: the rest
  lists : Course → Course  -- the generics of an impl
  led : Course → Course  -- what follows the generics
  self_type : Course → Course  -- `for` and the self type of an impl
