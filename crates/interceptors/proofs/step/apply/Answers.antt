use Rattle.interceptors.proofs.step.apply.Goals as goal

pub returns-in-Timestamp-clause-ok : goal.returns-in-Timestamp-clause-ok
returns-in-Timestamp-clause-ok c = rw c.in-Timestamp.is (rw (c.as_str.ensures.value, c.format.ensures.text) at c.set.ensures.ok)

pub returns-in-Timestamp-clause-err : goal.returns-in-Timestamp-clause-err
returns-in-Timestamp-clause-err c = rw c.in-Timestamp.is (rw (c.as_str.ensures.value, c.format.ensures.text) at c.set.ensures.err)

pub returns-in-Host-clause-ok : goal.returns-in-Host-clause-ok
returns-in-Host-clause-ok c = rw c.in-Host.is (rw c.as_str-in-Host.ensures.value at c.set-in-Host.ensures.ok)

pub returns-in-Host-clause-err : goal.returns-in-Host-clause-err
returns-in-Host-clause-err c = rw c.in-Host.is (rw c.as_str-in-Host.ensures.value at c.set-in-Host.ensures.err)

pub returns-in-Static-clause-ok : goal.returns-in-Static-clause-ok
returns-in-Static-clause-ok c = rw c.in-Static.is (rw (c.as_str-in-Static.ensures.value, c.as_str-in-Static-2.ensures.value) at c.set-in-Static.ensures.ok)

pub returns-in-Static-clause-err : goal.returns-in-Static-clause-err
returns-in-Static-clause-err c = rw c.in-Static.is (rw (c.as_str-in-Static.ensures.value, c.as_str-in-Static-2.ensures.value) at c.set-in-Static.ensures.err)
