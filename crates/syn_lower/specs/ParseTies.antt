-- A function that is handed over where types lead back to themselves: at this stream it may be called, and then returns what the rule
-- reads. Besides the buffer it takes a mark without a value (of the type P), that says how it carries a refusal.
use Rattle.std.specs.Prelude.{◌≡◌, Result}
use denote.Ref.{MutBor}
use Rattle.syn_grammar.specs.Tokens.{Stream}
use Rattle.syn_grammar.specs.Rules.{Rule}
use Rattle.syn_grammar.specs.Grammar.{Syntax}
use Rattle.syn_grammar.specs.Promises.{Parses}

pub record Ties {T E P : Type 0} (refusal : E → Type 0) (view : T → Syntax) (k : Rule) (ts : Stream)
    (pre : MutBor Stream → P → Type 0) (post : MutBor Stream → P → Result T E → MutBor Stream → Type 0) : Type 0 where
  pub callable : (old : MutBor Stream) (p : P) → old.now ≡ ts → pre old p
  pub parses : (old new : MutBor Stream) (p : P) (r : Result T E) → old.now ≡ ts → post old p r new → Parses refusal view k ts r new.now
