-- The print of what a shape builds is that of its parts.
use Rattle.std.proofs.Common.{◌≡◌, refl}
use Rattle.syn_grammar.specs.Tokens.{Stream, ◌⧺◌}
use Rattle.syn_grammar.specs.Shape.{Shape}
use Rattle.syn_grammar.specs.Grammar.{Syntax, print}
use Rattle.syn_grammar.specs.Values.{shape}
use Rattle.syn_grammar.proofs.Shapes.{IsSum, sum_shape}
use Rattle.syn_grammar.proofs.Streams.{append_append, append_end}

print_sum : IsSum Stream ◌⧺◌ print
print_sum = record {
  both = λ s t. refl;
  left = λ s. refl;
  right = λ s. refl;
  node = λ s. refl;
  shaped = λ j s. refl;
  unshown = refl;
  then_none = λ s. append_end (print s);
  none_then = λ s. refl;
  regrouped = λ s t u. append_append (print s) (print t) (print u);
  no_tokens = λ xs. refl;
  named = λ k s. refl;
}

pub shape_printed : (j : Shape) (s : Syntax) → print (shape j s) ≡ print s
shape_printed j s = sum_shape print_sum j s
