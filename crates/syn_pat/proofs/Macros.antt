-- Two macros.
use Rattle.std.proofs.Common.{◌≡◌, refl}
use Rattle.syn_grammar.specs.Tokens.{Stream, and}
use Rattle.syn_grammar.specs.Same.{same_stream, same_syntax}
use Rattle.syn_lower.specs.Attributes.{syntax_of_MacroDelimiter}
use Rattle.syn_lower.specs.declared.attr.MacroDelimiter.TheVariants as MacroDelimiter-m
use Rattle.syn_pat.specs.Macros.{macro_group}

pub same_macro : (d e : MacroDelimiter-m.the_data) (i j : Stream) →
    same_syntax (macro_group i d) (macro_group j e) ≡ and (same_syntax (syntax_of_MacroDelimiter d) (syntax_of_MacroDelimiter e)) (same_stream i j)
same_macro (MacroDelimiter-m.Paren d) (MacroDelimiter-m.Paren e) i j = refl
same_macro (MacroDelimiter-m.Paren d) (MacroDelimiter-m.Brace e) i j = refl
same_macro (MacroDelimiter-m.Paren d) (MacroDelimiter-m.Bracket e) i j = refl
same_macro (MacroDelimiter-m.Brace d) (MacroDelimiter-m.Paren e) i j = refl
same_macro (MacroDelimiter-m.Brace d) (MacroDelimiter-m.Brace e) i j = refl
same_macro (MacroDelimiter-m.Brace d) (MacroDelimiter-m.Bracket e) i j = refl
same_macro (MacroDelimiter-m.Bracket d) (MacroDelimiter-m.Paren e) i j = refl
same_macro (MacroDelimiter-m.Bracket d) (MacroDelimiter-m.Brace e) i j = refl
same_macro (MacroDelimiter-m.Bracket d) (MacroDelimiter-m.Bracket e) i j = refl
