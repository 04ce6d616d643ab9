-- Macros among items and members, printed.
use Rattle.std.proofs.Common.{◌≡◌, Bool, true, false, refl, sym, ap, ◌∙◌}
use Rattle.std.specs.Prelude.{Option, Some, None}
use Rattle.syn_grammar.specs.Words.{semicolon}
use Rattle.syn_grammar.specs.Rules.{macro_end}
use Rattle.syn_grammar.specs.Tokens.{◌⧺◌, Brace, Bracket, Paren, Stream}
use Rattle.syn_grammar.specs.Grammar.{Syntax, Both, Left, Right, Node, Raw, Grammar, ◌&◌, when◌then◌else◌, print, raw}
use Rattle.syn_grammar.specs.Forms.{punctuation}
use Rattle.syn_grammar.specs.Table.{at_bracket, at_paren}
use Rattle.syn_grammar.specs.Take.{Opened, Out, sees, take_group, take_mark}
use Rattle.syn_grammar.specs.Run.{and_then, branch, parse_form, parse_rule, raw_of, wrap}
use Rattle.syn_grammar.proofs.Each.{macro_end_is}
use Rattle.syn_parse.proofs.Listing.{wrap_wrap}
use Rattle.syn_lower.specs.Parameters.{after}
use Rattle.syn_pat.specs.PathForms.{any_group_form}
use Rattle.syn_grammar.proofs.Streams.{append_append, append_end}
use Rattle.syn_tokens.specs.Kinds.{Semi, semi_syntax}
use Rattle.syn_tokens.specs.Leaves.{maybe}
use Rattle.syn_item.specs.Macros.{among_items, among_members, ended_after, ended_group, ended_macro}

-- a group and the `;` after it
pub print_ended_group : (o : Option Semi) (s : Syntax) → print (ended_group (maybe semi_syntax o) s) ≡ print s ⧺ print (maybe semi_syntax o)
print_ended_group o (Left s) = print_ended_group o s
print_ended_group o (Right s) = print_ended_group o s
print_ended_group (Some semi) s = refl
print_ended_group None (Raw d o c i) = sym (append_end (print (Raw d o c i)))
print_ended_group None s = refl

-- a macro and the `;` after it
pub print_ended_macro : (o : Option Semi) (s : Syntax) → print (ended_macro (maybe semi_syntax o) s) ≡ print s ⧺ print (maybe semi_syntax o)
print_ended_macro o (Node (Both path (Both bang group))) =
    let semi = print (maybe semi_syntax o) in
    ap (λ z. print path ⧺ (print bang ⧺ z)) (print_ended_group o group)
    ∙ sym (append_append (print path) (print bang ⧺ print group) semi ∙ ap (λ z. print path ⧺ z) (append_append (print bang) (print group) semi))
print_ended_macro o s = refl

pub print_among_items : (s : Syntax) → print (among_items s) ≡ print s
print_among_items (Both attrs rest) = refl
print_among_items s = refl

pub print_among_members : (s : Syntax) → print (among_members s) ≡ print s
print_among_members (Both attrs rest) = refl
print_among_members s = refl

-- AS IT IS READ: a group of any tokens, followed by `;` unless it is in braces

abbrev in_brackets : Grammar
in_brackets = when at_bracket then raw Bracket & punctuation semicolon else raw Brace

abbrev end_form : Grammar
end_form = when at_paren then raw Paren & punctuation semicolon else in_brackets

-- by its delimiters, what was read and the `;` after it
group_ended : (ts : Stream) → parse_form end_form ts ≡ after (parse_form any_group_form ts) ended_after
unfolding ended_after
group_ended ts = go (sees at_paren ts) (sees at_bracket ts)
  where
    semi : (f : Syntax → Syntax) (s : Syntax) (o : Out) → wrap f (wrap (Both s) o) ≡ wrap (λ z. f (Both s z)) o
    semi f s None = refl
    semi f s (Some p) = refl

    in_paren : (o : Option Opened) → wrap Left (and_then (raw_of Paren o) (take_mark semicolon)) ≡ after (wrap Left (raw_of Paren o)) ended_after
    in_paren None = refl
    in_paren (Some g) = semi Left (Raw Paren g.opening g.closing g.content) (take_mark semicolon g.rest)

    in_bracket : (o : Option Opened) → wrap Right (wrap Left (and_then (raw_of Bracket o) (take_mark semicolon))) ≡ after (wrap Right (wrap Left (raw_of Bracket o))) ended_after
    in_bracket None = refl
    in_bracket (Some g) = ap (wrap Right) (semi Left (Raw Bracket g.opening g.closing g.content) (take_mark semicolon g.rest)) ∙ wrap_wrap Right _ (take_mark semicolon g.rest)

    in_brace : (o : Option Opened) → wrap Right (wrap Right (raw_of Brace o)) ≡ after (wrap Right (wrap Right (raw_of Brace o))) ended_after
    in_brace None = refl
    in_brace (Some g) = refl

    go : (b c : Bool) → branch b (and_then (raw_of Paren (take_group Paren ts)) (take_mark semicolon)) (branch c (and_then (raw_of Bracket (take_group Bracket ts)) (take_mark semicolon)) (raw_of Brace (take_group Brace ts)))
        ≡ after (branch b (raw_of Paren (take_group Paren ts)) (branch c (raw_of Bracket (take_group Bracket ts)) (raw_of Brace (take_group Brace ts)))) ended_after
    go true c = in_paren (take_group Paren ts)
    go false true = in_bracket (take_group Bracket ts)
    go false false = in_brace (take_group Brace ts)

pub macro_ended : (ts : Stream) → parse_rule macro_end ts ≡ wrap Node (after (parse_form any_group_form ts) ended_after)
macro_ended ts = macro_end_is ts ∙ ap (wrap Node) (group_ended ts)
