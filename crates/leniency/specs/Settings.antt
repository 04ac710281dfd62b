-- Plain ASCII targets are the default with one rule changed, in both directions (of the other settings Off, More and Said speak); and with all
-- settings off the readers and the definition are the default's.
-- The theorems stand in proofs/Settings.antt. Assumes nothing.
use Rattle.std.specs.Prelude.{Bool, true, false}
use Rattle.rules.specs.Rules.{Rules}
use Rattle.rules.specs.Settings.{changed}

-- ascii_targets on and off, whatever the three other settings of a request are
abbrev pub ascii_on : Bool → Bool → Bool → Rules
ascii_on q f i = changed false q false f false false i

abbrev pub ascii_off : Bool → Bool → Bool → Rules
ascii_off q f i = changed true q false f false false i
