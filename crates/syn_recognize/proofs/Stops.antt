-- Why a reading stops.
use Rattle.syn_grammar.specs.Tokens.{Stream}
use Rattle.syn_grammar.specs.Words.{Text}
use Rattle.syn_parse.specs.Nexts.{RefusedNext}
use Rattle.syn_parse.specs.Refusals.{IsTooDeep, NotMemory}
use Rattle.syn_parse.specs.declared.read.refusal.Refusal.{Refusal}
use Rattle.syn_parse.specs.declared.read.refusal.Refusal.TheVariants.{Memory, TooDeep, Syntax}

-- the refusal of a token is not too deep
pub token_shallow : (ts : Stream) (text : Text) (r : Refusal) → RefusedNext ts text r → IsTooDeep r → ⊥
token_shallow ts text (Memory e) h d = d
token_shallow ts text (TooDeep span) h d = h
token_shallow ts text (Syntax span said) h d = d

pub name_shallow : (ts : Stream) (text : Text) (r : Refusal) → (NotMemory r → RefusedNext ts text r) → IsTooDeep r → ⊥
name_shallow ts text (Memory e) h d = d
name_shallow ts text (TooDeep span) h d = h tt
name_shallow ts text (Syntax span said) h d = d
