-- Whether a word is next is whether it is read.
use Rattle.std.proofs.Common.{◌≡◌, true, false, Some, None, ap, ◌∙◌}
use Rattle.syn_grammar.specs.Words.{Text}
use Rattle.syn_grammar.specs.Tokens.{Stream, at_word}
use Rattle.syn_grammar.specs.Grammar.{Syntax, word}
use Rattle.syn_grammar.specs.Take.{sees, take_token, taken}
use Rattle.syn_grammar.proofs.Looks.{sees_word}

pub word_present : (w : Text) (ts : Stream) (s : Syntax) (r : Stream) → take_token (word w) ts ≡ Some (s, r) → sees (at_word w) ts ≡ true
word_present w ts s r e = sees_word w ts ∙ ap taken e

pub no_word : (w : Text) (ts : Stream) → take_token (word w) ts ≡ None → sees (at_word w) ts ≡ false
no_word w ts e = sees_word w ts ∙ ap taken e
