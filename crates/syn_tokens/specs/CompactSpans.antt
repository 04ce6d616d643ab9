-- Compact spans: less than half the size of a span.
use Rattle.std.specs.Prelude.{◌<◌, ◌≤◌, ◌^◌, ◌+◌, ◌*◌}
use Rattle.syn_tokens.specs.declared.stream.compact_span.CompactSpan.{CompactSpan}
use Rattle.syn_tokens.specs.declared.span.Span.{Span}

-- the span itself
abbrev pub wide : CompactSpan → Span
wide n = record { start = n.high * 2 ^ 16 + n.low; end = n.high * 2 ^ 16 + n.low + n.length }

-- it starts within the first 2^32 bytes, and is shorter than 2^16 bytes
abbrev pub IsCompact : Span → Type 0
IsCompact s = (s.start < 2 ^ 32) × (s.start ≤ s.end) × (s.end < s.start + 2 ^ 16)
