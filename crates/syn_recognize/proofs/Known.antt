-- Written by tools/recognizers.py; edits are lost.
-- How the next token tree alone distinguishes marks: each has a first character.
use Rattle.std.proofs.Common.{◌≡◌, false, refl}
use Rattle.syn_recognize.specs.May.{is_empty_text}
use Rattle.syn_recognize.specs.Names.{mark_text}
use Rattle.syn_recognize.specs.declared.words.Mark.{Mark}
use Rattle.syn_recognize.specs.declared.words.Mark.TheVariants as Mark-m

pub known_mark : (m : Mark) → is_empty_text (mark_text m) ≡ false
known_mark Mark-m.And = refl
known_mark Mark-m.AndAnd = refl
known_mark Mark-m.AndEq = refl
known_mark Mark-m.Caret = refl
known_mark Mark-m.CaretEq = refl
known_mark Mark-m.Colon = refl
known_mark Mark-m.Comma = refl
known_mark Mark-m.Dot = refl
known_mark Mark-m.DotDot = refl
known_mark Mark-m.DotDotDot = refl
known_mark Mark-m.Eq = refl
known_mark Mark-m.EqEq = refl
known_mark Mark-m.Ge = refl
known_mark Mark-m.Gt = refl
known_mark Mark-m.Le = refl
known_mark Mark-m.Lt = refl
known_mark Mark-m.Minus = refl
known_mark Mark-m.MinusEq = refl
known_mark Mark-m.Ne = refl
known_mark Mark-m.Not = refl
known_mark Mark-m.Or = refl
known_mark Mark-m.OrEq = refl
known_mark Mark-m.OrOr = refl
known_mark Mark-m.PathSep = refl
known_mark Mark-m.Percent = refl
known_mark Mark-m.PercentEq = refl
known_mark Mark-m.Plus = refl
known_mark Mark-m.PlusEq = refl
known_mark Mark-m.Pound = refl
known_mark Mark-m.Question = refl
known_mark Mark-m.RArrow = refl
known_mark Mark-m.Semi = refl
known_mark Mark-m.Shl = refl
known_mark Mark-m.ShlEq = refl
known_mark Mark-m.Shr = refl
known_mark Mark-m.ShrEq = refl
known_mark Mark-m.Slash = refl
known_mark Mark-m.SlashEq = refl
known_mark Mark-m.Star = refl
known_mark Mark-m.StarEq = refl
