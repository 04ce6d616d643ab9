-- The result of calling a parse function.
use Rattle.std.specs.Prelude.{◌≡◌, Result, OnOk}
use Rattle.std.specs.Fn.{Once, FnOnceReturnsAtMut}
use denote.Ref.{MutBor}
use Rattle.syn_grammar.specs.Tokens.{Stream}
use Rattle.syn_tokens.specs.Faults.{ErrorValue}

-- `result` is a result of the function f at the stream `old`; if it is a value, `new` is what f left
pub record IsAnswer {F R T : Type 0} (calls : Once F (MutBor Stream × Unit {0}) (R × (MutBor Stream × Unit {0}))) (answers : R → Result T ErrorValue) (f : F) (old : Stream) (result : Result T ErrorValue) (new : Stream) : Type 0 where
  pub answer : R
  pub rest : Stream
  pub called : FnOnceReturnsAtMut calls f old answer rest
  pub same : result ≡ answers answer
  pub proceeds : OnOk result (new ≡ rest)
