-- What is said of a load.
use Rattle.fraction.specs.helpers.Loaded.{Loaded, loaded}
use Rattle.fraction.specs.declared.load.Load.{Load}

-- Its net, tokens and times.
abbrev pub loaded_of : Load → Loaded
loaded_of g = loaded g.wiring.operations g.wiring.edges g.wiring.from.now g.wiring.to.now g.marking.now g.times.now
