-- `answers::plain_numbers::converted_numbers` meets its contract: a refusal is the definition's case of it. Assumes nothing.
use Rattle.std.proofs.Common.{sym, ap}
use Rattle.answers.specs.Numbers.{converted_numbers}
use Rattle.answers.proofs.plain_numbers.converted_numbers.Goals as goal

pub returns-in-Err : goal.returns-in-Err
returns-in-Err c = sym (ap converted_numbers c.in-Err.is)
