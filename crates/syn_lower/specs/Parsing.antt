-- WHAT THE CONTRACTS OF PARSERS ARE MADE OF, in one place to import from.
pub use Rattle.syn_grammar.specs.Grammar.{rule, inside, name_or}
pub use Rattle.syn_grammar.specs.Run.{parse_rule, parse_form}
pub use Rattle.syn_grammar.specs.Promises.{Computes, Parses, MayParse, Moved, Kept, MayBelow, MayHere, Outcome, itself}
pub use Rattle.syn_grammar.specs.Take.{take_token, sees}
pub use Rattle.syn_parse.specs.Form.{of}
pub use Rattle.syn_parse.specs.Meanings.{meaning_of_rule}
pub use Rattle.syn_parse.specs.FirstTokens.{path_words}
pub use Rattle.syn_tokens.specs.Listing.{list_of, joined_of}
pub use Rattle.syn_parse.specs.Refusals.{IsSyntax}
pub use Rattle.syn_tokens.specs.Faults.{IsSyntaxError}
