use Rattle.dump_lines.proofs.pins.count_pin.Goals as goal

pub raise-requires-clause-there : goal.raise-requires-clause-there
raise-requires-clause-there c = c.in-Some.ensures.there _ c.requires.there
