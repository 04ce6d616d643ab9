use Rattle.std.proofs.Common.{refl, sym, ◌∙◌}
use Rattle.syn_tokens.specs.Punct.{is_punct_character}
use Rattle.syn_reader.proofs.Scans.{quote_literal, lifetime_apostrophe}
use Rattle.syn_reader.proofs.Unexpected.{quote_alone}
use Rattle.syn_reader.proofs.reader.lexer.Lexer.apostrophe.Goals as goal

pub character-requires-clause-literal : goal.character-requires-clause-literal
character-requires-clause-literal c = quote_literal _ _ c.requires.past.2

pub new-requires : goal.new-requires
unfolding is_punct_character
new-requires c = refl

pub returns-then-is_at_name-clause-present : goal.returns-then-is_at_name-clause-present
returns-then-is_at_name-clause-present c =
    lifetime_apostrophe c.args.start.now c.args.self.now.cursor _ _ c.requires.past c.requires.first (sym c.begins_character.ensures ∙ c.if-begins_character.false)
    (sym c.is_at_name.ensures ∙ c.if-is_at_name.true) c.new.ensures c.span_since-span.ensures

pub returns-else-is_at_name-clause-present : goal.returns-else-is_at_name-clause-present
returns-else-is_at_name-clause-present c =
    quote_alone c.args.start.now c.args.self.now.cursor _ _ c.requires.past c.requires.first (sym c.begins_character.ensures ∙ c.if-begins_character.false)
    (sym c.is_at_name.ensures ∙ c.if-is_at_name.false) c.span_since-span.ensures c.unexpected_character.ensures
