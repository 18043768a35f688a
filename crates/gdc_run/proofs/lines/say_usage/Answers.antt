-- Each line is that of the fault, once the fault's key and the words in the line are read.
use Rattle.gdc_run.proofs.lines.say_usage.Goals as goal

pub returns-in-Some : goal.returns-in-Some
returns-in-Some g c = rw c.in-Some.is (rw (c.kind_text-kind.ensures, c.bytes.ensures) at c.write_5.ensures)

pub returns-in-None : goal.returns-in-None
returns-in-None g c =
    rw c.in-None.is (rw (c.as_bytes-place.ensures.value, c.format.ensures.text, c.kind_text-kind.ensures) at c.write_5-in-None.ensures)
