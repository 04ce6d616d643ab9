-- A colon and lifetimes, as they are printed.
use Rattle.std.proofs.Common.{◌≡◌, false, List, [], ◌∷◌, Option, Some, None, refl, ap, ◌∙◌}
use Rattle.syn_grammar.specs.Words.{colon}
use Rattle.syn_grammar.specs.Tokens.{◌⧺◌}
use Rattle.syn_grammar.specs.Grammar.{Syntax, Nothing, Both, Left, Right, Node, Vanishing, print}
use Rattle.syn_tokens.specs.Kinds.{Colon, Plus, colon_syntax, plus_syntax}
use Rattle.syn_tokens.specs.Leaves.{maybe}
use Rattle.syn_tokens.specs.Listing.{list_of}
use Rattle.syn_tokens.specs.declared.lifetime.Lifetime.{Lifetime}
use Rattle.syn_lower.specs.Parts.{or_added}
use Rattle.syn_lower.specs.Bounds.{after_colon, turned}
use Rattle.syn_lower.specs.GenericPrints.{printed_with}
use Rattle.syn_lower.specs.Types.{syntax_of_lifetime}
use Rattle.syn_lower.proofs.GenericPrints.{no_bounds, print_turned, shown_part}

after_some : (c : Option Colon) (s : Syntax) → after_colon (maybe colon_syntax c) (Node (Left (Both s (Right Nothing)))) ≡ Left (Both (or_added colon (maybe colon_syntax c)) (Node (Left (Both s (Right Nothing)))))
after_some (Some m) s = refl
after_some None s = refl

following_more : (c : Option Colon) (s t : Syntax) → after_colon (maybe colon_syntax c) (Node (Left (Both s (Left t)))) ≡ Left (Both (or_added colon (maybe colon_syntax c)) (Node (Left (Both s (Left t)))))
following_more (Some m) s t = refl
following_more None s t = refl

pub print_lifetimes : (c : Option Colon) (l : List (Lifetime × Plus)) (o : Option Lifetime) →
    print (Vanishing false (after_colon (maybe colon_syntax c) (turned (list_of syntax_of_lifetime plus_syntax l o)))) ≡ printed_with (or_added colon (maybe colon_syntax c)) syntax_of_lifetime plus_syntax l o
print_lifetimes None [] None = refl
print_lifetimes (Some m) [] None = no_bounds m (Node (Right Nothing)) refl refl
print_lifetimes c [] (Some t) = ap (λ z. print (Vanishing false z)) (after_some c (syntax_of_lifetime t)) ∙ shown_part (or_added colon (maybe colon_syntax c)) (Node (Left (Both (syntax_of_lifetime t) (Right Nothing)))) refl
print_lifetimes c (x ∷ l) o =
    let more = Both (plus_syntax x.1) (turned (list_of syntax_of_lifetime plus_syntax l o)) in
    ap (λ z. print (Vanishing false z)) (following_more c (syntax_of_lifetime x.0) more)
    ∙ shown_part (or_added colon (maybe colon_syntax c)) (Node (Left (Both (syntax_of_lifetime x.0) (Left more)))) refl
    ∙ ap (λ z. print (or_added colon (maybe colon_syntax c)) ⧺ z) (print_turned syntax_of_lifetime plus_syntax (x ∷ l) o)
