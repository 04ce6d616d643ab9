-- Equality of streams, which ignores spans, is an equivalence.
use Rattle.std.specs.Cmp.{IsEquivalence, IsPartialEquivalence, partial_equiv_from_equiv}
use Rattle.syn_grammar.specs.Tokens.{plain}
use Rattle.syn_grammar.specs.Same.{same_stream}
use Rattle.syn_grammar.proofs.Same.{same_stream_plain}
use Rattle.syn_tokens.specs.Equal.{equiv_from_view}

pub same_stream_equiv : IsEquivalence same_stream
same_stream_equiv = equiv_from_view plain same_stream (λ a b. (same_stream_plain a b).0) (λ a b. (same_stream_plain a b).1)

pub same_stream_per : IsPartialEquivalence same_stream
same_stream_per = partial_equiv_from_equiv same_stream_equiv
