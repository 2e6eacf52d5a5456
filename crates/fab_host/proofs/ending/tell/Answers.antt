use Rattle.fab_host.proofs.ending.tell.Goals as goal

pub returns-in-ScriptRefused-clause-ok : goal.returns-in-ScriptRefused-clause-ok
returns-in-ScriptRefused-clause-ok g c = rw c.in-ScriptRefused.is c.tell_refused.ensures.ok

pub returns-in-ReadFault-clause-ok : goal.returns-in-ReadFault-clause-ok
returns-in-ReadFault-clause-ok g c =
    rw c.in-ReadFault.is (rw c.as_str-in-ReadFault.ensures at c.tell_named-in-ReadFault.ensures.ok)

pub returns-in-WriteFault-clause-ok : goal.returns-in-WriteFault-clause-ok
returns-in-WriteFault-clause-ok g c = rw c.in-WriteFault.is c.tell_named-in-WriteFault.ensures.ok

pub returns-in-NoMemory-clause-ok : goal.returns-in-NoMemory-clause-ok
returns-in-NoMemory-clause-ok g c = rw c.in-NoMemory.is c.tell_named-in-NoMemory.ensures.ok
