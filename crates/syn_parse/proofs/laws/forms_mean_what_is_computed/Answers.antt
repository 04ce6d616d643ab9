use Rattle.syn_parse.specs.Meanings.{meaning_of}
use Rattle.syn_parse.proofs.laws.forms_mean_what_is_computed.Goals as goal

pub returns : goal.returns
returns c = record { meaning = meaning_of }
