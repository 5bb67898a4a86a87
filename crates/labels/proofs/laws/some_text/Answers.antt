use Rattle.labels.proofs.Existence.{text_from, lawful_from}
use Rattle.labels.proofs.laws.some_text.Goals as goal

pub returns : goal.returns
returns c = record { faultless = text_from; only = lawful_from }
