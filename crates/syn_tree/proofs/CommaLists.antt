-- Written by tools/kinds.py; edits are lost.
-- The rules that are comma lists.
use Rattle.std.specs.Prelude.{false}
use Rattle.syn_grammar.specs.Tokens.{ended, at_mark}
use Rattle.syn_grammar.specs.Words.{comma}
use Rattle.syn_grammar.specs.Rules.{unnamed_fields, unnamed_field, variants, variant}
use Rattle.syn_grammar.specs.Grammar.{rule, mark}
use Rattle.syn_grammar.proofs.Each.{unnamed_fields_is, variants_is}
use Rattle.syn_parse.specs.Form.{by, of}
use Rattle.syn_parse.specs.Listing.{IsList}

pub unnamed_fields_list : IsList unnamed_fields (of (rule unnamed_field)) (by ended) (by (at_mark comma)) (of (mark false comma))
unnamed_fields_list = record { is = unnamed_fields_is }

pub variants_list : IsList variants (of (rule variant)) (by ended) (by (at_mark comma)) (of (mark false comma))
variants_list = record { is = variants_is }
