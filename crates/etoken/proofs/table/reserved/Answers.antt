use Rattle.std.proofs.Common.{ap, sym}
use Rattle.etoken.specs.Table.{reserved_of}
use Rattle.etoken.proofs.table.reserved.Goals as goal

pub returns-in-def : goal.returns-in-def
returns-in-def c = sym (ap reserved_of c.in-def.is)

pub returns-in-var : goal.returns-in-var
returns-in-var c = sym (ap reserved_of c.in-var.is)

pub returns-in-method : goal.returns-in-method
returns-in-method c = sym (ap reserved_of c.in-method.is)

pub returns-in-to : goal.returns-in-to
returns-in-to c = sym (ap reserved_of c.in-to.is)

pub returns-in-return : goal.returns-in-return
returns-in-return c = sym (ap reserved_of c.in-return.is)

pub returns-in-if : goal.returns-in-if
returns-in-if c = sym (ap reserved_of c.in-if.is)

pub returns-in-else : goal.returns-in-else
returns-in-else c = sym (ap reserved_of c.in-else.is)

pub returns-in-while : goal.returns-in-while
returns-in-while c = sym (ap reserved_of c.in-while.is)

pub returns-in-for : goal.returns-in-for
returns-in-for c = sym (ap reserved_of c.in-for.is)

pub returns-in-in : goal.returns-in-in
returns-in-in c = sym (ap reserved_of c.in-in.is)

pub returns-in-escape : goal.returns-in-escape
returns-in-escape c = sym (ap reserved_of c.in-escape.is)

pub returns-in-try : goal.returns-in-try
returns-in-try c = sym (ap reserved_of c.in-try.is)

pub returns-in-catch : goal.returns-in-catch
returns-in-catch c = sym (ap reserved_of c.in-catch.is)

pub returns-in-when : goal.returns-in-when
returns-in-when c = sym (ap reserved_of c.in-when.is)

pub returns-in-true : goal.returns-in-true
returns-in-true c = sym (ap reserved_of c.in-true.is)

pub returns-in-false : goal.returns-in-false
returns-in-false c = sym (ap reserved_of c.in-false.is)

pub returns-in-null : goal.returns-in-null
returns-in-null c = sym (ap reserved_of c.in-null.is)

pub returns-in-throw : goal.returns-in-throw
returns-in-throw c = sym (ap reserved_of c.in-throw.is)

pub returns-in-Ref : goal.returns-in-Ref
returns-in-Ref c = sym (ap reserved_of c.in-Ref.is)
