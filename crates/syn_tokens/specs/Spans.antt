-- Spans, as the grammar represents them.
use Rattle.syn_grammar.specs.Tokens as grammar
use Rattle.syn_tokens.specs.declared.span.Span.{Span}

abbrev pub at : Span → grammar.Span
at s = record { start = s.start; stop = s.end }
