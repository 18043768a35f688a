-- Each line is that of the answer, once the answer and the words in the line are read.
use Rattle.gdc_run.proofs.lines.say.Goals as goal

pub returns-in-ReadFault-clause-writes : goal.returns-in-ReadFault-clause-writes
returns-in-ReadFault-clause-writes g c = rw c.in-ReadFault.is (rw c.word.ensures at c.write_3.ensures.writes)

pub returns-in-WriteFault-clause-writes : goal.returns-in-WriteFault-clause-writes
returns-in-WriteFault-clause-writes g c = rw c.in-WriteFault.is c.write_2.ensures.writes

pub returns-in-OutOfMemory-clause-writes : goal.returns-in-OutOfMemory-clause-writes
returns-in-OutOfMemory-clause-writes g c = rw c.in-OutOfMemory.is c.write_2-in-OutOfMemory.ensures.writes
