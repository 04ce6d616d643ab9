-- THE SYNTAX OF FILES, one level at a time, every field.
use Rattle.std.specs.Prelude.{String, string_bytes}
use Rattle.std.specs.declared.alloc.Global.{Global}
use Rattle.syn_grammar.specs.Tokens.{call_site, ident}
use Rattle.syn_grammar.specs.Grammar.{Syntax, Nothing, Token, Both, Node}
use Rattle.syn_tokens.specs.Leaves.{maybe}
use Rattle.syn_lower.specs.Attributes.{inner_attributes_syntax}
use Rattle.syn_item.specs.Items.{syntax_of_Item}
use Rattle.syn_item.specs.Parts.{aside, members_of}
use Rattle.syn_item.specs.declared.file.File.TheInside as File-in
use Rattle.syn_item.specs.declared.file.Frontmatter.{Frontmatter}

abbrev pub syntax_of_Frontmatter : Frontmatter → Syntax
syntax_of_Frontmatter f = Nothing

-- a text that is never printed
abbrev pub unshown_text : String Global → Syntax
unshown_text x = Token (ident (string_bytes x)) call_site

-- a first line and a frontmatter are never printed, and neither are outer attributes
abbrev pub view_File : File-in.Inside → Syntax
view_File a =
    Node (Both (aside (maybe unshown_text a.shebang)) (Both (aside (maybe syntax_of_Frontmatter a.frontmatter))
    (Both (inner_attributes_syntax a.attrs.items) (members_of syntax_of_Item a.items.items))))
