-- The parts are written one after the other.
use Rattle.lexical_writer.proofs.Common.{append_assoc}
use Rattle.lexical_writer.proofs.layout.Layout.put.Goals as goal

pub returns : goal.returns
returns g c start text has =
    let sign = c.put_if_any.ensures start text has in
    let zero = rw (c.only_if.ensures, c.is_some.ensures) at (c.put_if_any-2.ensures start _ sign) in
    let prefix = c.put_if_any-3.ensures start _ zero in
    let integer = c.put.ensures start _ prefix in
    let point = c.put_if_any-4.ensures start _ integer in
    let fraction = c.put-2.ensures start _ point in
    let character = c.put_if_any-5.ensures start _ fraction in
    let exponent_sign = c.put_if_any-6.ensures start _ character in
    let exponent = c.put-3.ensures start _ exponent_sign in
    simp append_assoc (simp append_assoc at (c.put_if_any-7.ensures start _ exponent))
