-- HOW USES ARE READ, part by part.
use Rattle.std.specs.Prelude.{Option, [], ◌∷◌}
use Rattle.syn_grammar.specs.Words.{colons, semicolon, star, w_as, w_crate, w_self, w_super, w_try, w_use}
use Rattle.syn_grammar.specs.Tokens.{Brace, at_word}
use Rattle.syn_grammar.specs.Rules.{root_mark, rooted_trees, use_tree, use_trees}
use Rattle.syn_grammar.specs.Grammar.{Syntax, Nothing, Both, Left, Right, Grammar, empty, has_no, inside, name_or, ◌&◌, when◌then◌else◌, rule, such, word}
use Rattle.syn_grammar.specs.Forms.{plainly, punctuation}
use Rattle.syn_grammar.specs.Table.{at_brace, at_colons, name_or_underscore}
use Rattle.syn_grammar.specs.Take.{Parser}
use Rattle.syn_grammar.specs.Run.{parse_form, parse_rule, wrap}
use Rattle.syn_tokens.specs.Kinds.{PathSep, path_sep_syntax}
use Rattle.syn_tokens.specs.Leaves.{maybe}
use Rattle.syn_item.specs.Uses.{syntax_of_UseTree, used}
use Rattle.syn_item.specs.declared.use_tree.UseTree.TheVariants as UseTree-m

-- trees in braces of which none has `::` before it
abbrev pub braced_form : Grammar
braced_form = such (has_no root_mark) (inside Brace (rule rooted_trees))

-- a tree, with `::` before it or without it
abbrev pub tree_form : Grammar
tree_form = (when at_colons then punctuation colons else empty) & rule use_tree

abbrev pub used_form : Grammar
used_form = when at_brace then braced_form else tree_form

abbrev pub used_syntax : Option PathSep × UseTree-m.the_data → Syntax
used_syntax p = used (maybe path_sep_syntax p.0) (syntax_of_UseTree p.1)

unfoldable pub read_braced : Parser
read_braced ts = wrap Left (parse_form braced_form ts)

-- a tree where neither braces nor `::` are next
unfoldable pub read_plain : Parser
read_plain ts = wrap Right (wrap (Both (Right Nothing)) (parse_rule use_tree ts))

-- after the visibility
abbrev pub use_form : Grammar
use_form = plainly (word w_use) & used_form & punctuation semicolon

-- TREES, by what they begin with

abbrev pub glob_form : Grammar
glob_form = punctuation star

abbrev pub group_form : Grammar
group_form = inside Brace (rule use_trees)

abbrev pub word_form : Grammar
word_form =
    plainly (name_or (w_self ∷ w_super ∷ w_crate ∷ w_try ∷ []))
    & (when at_colons then punctuation colons & rule use_tree else when at_word w_as then plainly (word w_as) & name_or_underscore else empty)
