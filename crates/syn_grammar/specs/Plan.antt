-- PLANS: a deterministic way to read a union. A plan reads the common parts of the alternatives once, branches on the next token
-- (or on a test of a value that was read), and marks where it is decided that the tokens are stored verbatim. It reads no part twice.
use Rattle.std.specs.Prelude.{◌≡◌, Bool, true, false, Option, Some, None}
use Rattle.syn_grammar.specs.Tokens.{Stream, ◌⧺◌, pick, Look}
use Rattle.syn_grammar.specs.Rules.{Rule}
use Rattle.syn_grammar.specs.Grammar.{Test, holds, show, Grammar, Syntax, Nothing, Node, Case, Captured}
use Rattle.syn_grammar.specs.Take.{Out, sees, before}
use Rattle.syn_grammar.specs.Run.{parse_form}

pub data Plan : Type 0 where
  reads : Grammar → (Syntax → Plan) → Plan  -- reads this form; the rest of the plan may use the value
  turns : Look → Plan → Plan → Plan  -- a branch: continues with the first plan if the look holds of the next token, else with the second
  tests : Test → Syntax → Plan → Plan → Plan  -- a branch: continues with the first plan if this value passes the test, else with the second
  keeps : Plan → Plan  -- from here on it is decided that all tokens read, from the beginning, are stored verbatim
  ends : Syntax → Plan  -- the end, for a form with a kind of its own, with its value
  done : Plan  -- the end, for a form that is stored verbatim
  fails : Plan  -- refuses

-- one part, then a function of its value and rest
abbrev pub follow : (Syntax → Stream → Out) → Out → Out
follow f (Some p) = f p.0 p.1
follow f None = None

abbrev pub by_test : Bool → Out → Out → Out
by_test true p q = p
by_test false p q = q

-- the value of a form that is stored verbatim: the tokens from the one stream to the other, as a member of a union, by this rule
abbrev pub kept_as : Rule → Stream → Stream → Syntax
kept_as k ts r = Node (Case k (Captured Nothing (before ts r)))

-- WHAT A PLAN READS, given the rule of its verbatim members, the stream at the plan's start, and the current stream
abbrev pub run_plan : Plan → Rule → Stream → Stream → Out
run_plan (reads g f) k ts m = follow (λ s r. run_plan (f s) k ts r) (parse_form g m)
run_plan (turns c p q) k ts m = by_test (sees c m) (run_plan p k ts m) (run_plan q k ts m)
run_plan (tests t s p q) k ts m = by_test (holds t s) (run_plan p k ts m) (run_plan q k ts m)
run_plan (keeps p) k ts m = run_plan p k ts m
run_plan (ends s) k ts m = Some (s, m)
run_plan done k ts m = Some (kept_as k ts m, m)
run_plan fails k ts m = None

-- WHAT A PLAN WRITES when the tokens are copied: the tokens (`show`) of each part, appended to the output so far; and where all is stored
-- verbatim, instead of that the original tokens from the beginning, with their spacing
abbrev pub follow_shown : (Syntax → Stream → Option (Stream × Stream)) → Out → Option (Stream × Stream)
follow_shown f (Some p) = f p.0 p.1
follow_shown f None = None

abbrev pub show_plan : Plan → Stream → Stream → Stream → Option (Stream × Stream)
show_plan (reads g f) ts w m = follow_shown (λ s r. show_plan (f s) ts (w ⧺ show s) r) (parse_form g m)
show_plan (turns c p q) ts w m = pick (sees c m) (show_plan p ts w m) (show_plan q ts w m)
show_plan (tests t s p q) ts w m = pick (holds t s) (show_plan p ts w m) (show_plan q ts w m)
show_plan (keeps p) ts w m = show_plan p ts w m
show_plan (ends s) ts w m = Some (w, m)
show_plan done ts w m = Some (before ts m, m)
show_plan fails ts w m = None

-- the tokens of the value, and the rest
abbrev pub shown_out : Out → Option (Stream × Stream)
shown_out (Some p) = Some (show p.0, p.1)
shown_out None = None

-- THE PLACE OF `keeps`: after `keeps` a plan ends verbatim (`done`) or refuses; without `keeps` it never ends verbatim
abbrev pub Marked : Bool → Plan → Type 0
Marked b (reads g f) = (s : Syntax) → Marked b (f s)
Marked b (turns c p q) = Marked b p × Marked b q
Marked b (tests t s p q) = Marked b p × Marked b q
Marked b (keeps p) = (b ≡ false) × Marked true p
Marked b (ends s) = b ≡ false
Marked b done = b ≡ true
Marked b fails = Unit {0}
