-- The program's command is one whose parses are known.
use Rattle.std.proofs.Common.{◌≡◌, ◌&&◌, not, Bool, true, false, true≢false, refl, sym}
use Rattle.clap.specs.Faults.{is_simple_and_free}
use Rattle.clap.specs.Words.{is_simple}
use Rattle.clap.proofs.OnLiterals.{clap_on_literals}
use Rattle.desk_commands.specs.CommandLine.{desk_command}

pub simple : is_simple desk_command ≡ true
unfolding clap_on_literals
simple = refl

pub simple_and_free : is_simple_and_free desk_command ≡ true
unfolding clap_on_literals
simple_and_free = refl

-- what a plain command says of its global arguments, which is the third of its tests
pub has_no_global : (grouped external global rest : Bool) → grouped && (external && (not global && rest)) ≡ true → global ≡ false
has_no_global true true false rest plain = refl
has_no_global true true true rest plain = absurd (true≢false (sym plain))
has_no_global true false global rest plain = absurd (true≢false (sym plain))
has_no_global false external global rest plain = absurd (true≢false (sym plain))
