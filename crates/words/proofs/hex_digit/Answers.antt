-- Each range of bytes has its value. Assumes nothing.
use native.Mathlib.Omega.{arith}
use Rattle.words.proofs.HexLaws.{hex_before, hex_decimal, hex_between, hex_upper, hex_middle, hex_lower, hex_after}
use Rattle.words.proofs.hex_digit.Goals as goal

pub returns-in-48-to-57 : goal.returns-in-48-to-57
returns-in-48-to-57 c = hex_decimal _ (omega arith) (omega arith)

pub returns-in-65-to-70 : goal.returns-in-65-to-70
returns-in-65-to-70 c = hex_upper _ (omega arith) (omega arith) (omega arith)

pub returns-in-97-to-102 : goal.returns-in-97-to-102
returns-in-97-to-102 c = hex_lower _ (omega arith) (omega arith) (omega arith) (omega arith)

pub returns-in_default : goal.returns-in_default
returns-in_default c = hex_before _ (omega arith)

pub returns-in_default-2 : goal.returns-in_default-2
returns-in_default-2 c = hex_between _ (omega arith) (omega arith)

pub returns-in_default-3 : goal.returns-in_default-3
returns-in_default-3 c = hex_middle _ (omega arith) (omega arith) (omega arith)

pub returns-in_default-4 : goal.returns-in_default-4
returns-in_default-4 c = hex_after _ (omega arith) (omega arith) (omega arith)
