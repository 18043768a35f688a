-- What each amount is read as.
use Rattle.spef_nets.proofs.AmountLemmas.{read_unread, read_below, read_within, read_past}
use Rattle.spef_nets.proofs.amounts.reading.Goals as goal

pub returns-in-Unread : goal.returns-in-Unread
returns-in-Unread c = λ unit most text is. read_unread unit most text c.args.amount c.in-Unread.is is

pub returns-in-Below : goal.returns-in-Below
returns-in-Below c = λ unit most text is. read_below unit most text c.args.amount c.in-Below.is is

pub returns-in-Within : goal.returns-in-Within
returns-in-Within c = λ unit most text is. read_within unit most text c.args.amount c.in-Within.grains c.in-Within.is is

pub returns-in-Past : goal.returns-in-Past
returns-in-Past c = λ unit most text is. read_past unit most text c.args.amount c.in-Past.is is
