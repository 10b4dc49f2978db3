-- Arguments, as the definitions see them.
use Rattle.std.specs.Prelude.{ℕ, List}
use Rattle.script.specs.declared.arguments.Arguments.{Arguments}

-- the bytes of the line that are not read yet
abbrev pub rest_of : Arguments → List ℕ
rest_of arguments = arguments.rest.now
