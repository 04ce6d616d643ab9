-- THE SYNTAX OF VISIBILITIES, one level at a time, every field.
use Rattle.std.specs.Prelude.{Option, true}
use Rattle.syn_grammar.specs.Tokens.{Paren, None as Invisible, at_empty_group}
use Rattle.syn_grammar.specs.Grammar.{Grammar, empty, inside, vanishing, Syntax, Nothing, Both, Left, Right, Node, Vanishing}
use Rattle.syn_tokens.specs.Leaves.{maybe}
use Rattle.syn_tokens.specs.Kinds.{In, pub_syntax, in_syntax}
use Rattle.syn_lower.specs.Parts.{group_syntax}
use Rattle.syn_tree.specs.declared.restriction.VisRestricted.TheInside as VisRestricted-in
use Rattle.syn_tree.specs.declared.restriction.Visibility.TheVariants as Visibility-m

-- `in` or not, and a path
abbrev pub restriction_syntax : Option In × Syntax → Syntax
restriction_syntax p = Node (Both (maybe in_syntax p.0) p.1)

abbrev pub view_VisRestricted : VisRestricted-in.Inside → Syntax
view_VisRestricted a = Both (pub_syntax a.pub_token) (Left (group_syntax Paren a.paren_token (restriction_syntax (a.in_token, a.path.value))))

abbrev pub syntax_of_Visibility : Visibility-m.the_data → Syntax
syntax_of_Visibility (Visibility-m.Public p) = Node (Left (Both (pub_syntax p) (Right Nothing)))
syntax_of_Visibility (Visibility-m.Restricted r) = Node (Left r)
syntax_of_Visibility Visibility-m.Inherited = Node (Right (Vanishing true (Right Nothing)))

-- an invisible group without content represents a visibility that isn't written; it isn't kept
abbrev pub unshown_group : Grammar
unshown_group = vanishing true at_empty_group (inside Invisible empty)
