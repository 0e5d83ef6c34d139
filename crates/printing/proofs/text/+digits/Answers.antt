use Rattle.std.proofs.Common.{◌/◌, sym, arith}
use Rattle.std.proofs.lemmas.Fmt.{length-decimal-le}
use Rattle.itoa.proofs.Decimal.{length_one, length_step_wide}
use Rattle.printing.proofs.text.+digits.Goals as goal

pub returns-then-n-lt10 : goal.returns-then-n-lt10
returns-then-n-lt10 t c = sym (length_one c.args.n c.if-n-lt10.true)

pub overflow_add-result : goal.overflow_add-result
overflow_add-result t c = omega (arith, c.digits.ensures, length-decimal-le 20 (c.args.n / 10) (omega arith) (omega arith) (omega arith))

pub returns : goal.returns
returns t c = omega (arith, c.digits.ensures, length_step_wide c.args.n c.if-n-lt10.false (omega arith))
