-- The rule that passes over lines makes a difference: two byte strings of its entry in docs/DIFFERENCES.md, a request and a response, are heads with it and not without it.
-- The theorems stand in proofs/RealIgnored.antt. Assumes nothing.
use Rattle.grammar.specs.Message.{RequestLine}
use Rattle.leniency.specs.Text.{ascii}

abbrev pub asks : RequestLine
asks = record { method = ascii "A"; target = ascii "*"; version = record { major = 1; minor = 0 } }
