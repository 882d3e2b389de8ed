-- Why words are refused.
use Rattle.std.proofs.Common.{◌≡◌, ◌≢◌, true, ℕ, List}
use Rattle.clap.specs.Words.{subcommand_of, takes}
use Rattle.clap.specs.declared.error.kind.ErrorKind.{ErrorKind}
use Rattle.clap.specs.declared.error.kind.ErrorKind.TheVariants.{OutOfMemory}
use Rattle.mtpbank_words.specs.declared.words.WordsFault.{WordsFault}
use Rattle.mtpbank_words.specs.declared.words.WordsFault.TheVariants.{NoMemory, Words as WrongWords, Link, Said}
use Rattle.mtpbank_words.specs.CommandLine.{program, AreWrong, AsksForNothing, IsKind, Refuses}

-- they name no subcommand
pub unnamed : (fault : WordsFault) (words : List (List ℕ)) (kind : ErrorKind) → IsKind kind fault → AsksForNothing (subcommand_of program words) → Refuses fault words
unnamed NoMemory words kind is none = tt
unnamed (WrongWords error) words kind is none = λ taken. none
unnamed (Link fail links) words kind is none = absurd is
unnamed (Said said) words kind is none = absurd is

-- the library refuses them
pub not_taken : (fault : WordsFault) (words : List (List ℕ)) (kind : ErrorKind) → IsKind kind fault → (AreWrong fault → kind ≢ OutOfMemory) → (takes program words ≡ true → kind ≡ OutOfMemory) → Refuses fault words
not_taken NoMemory words kind is f g = tt
not_taken (WrongWords error) words kind is f g = λ taken. absurd (f tt (g taken))
not_taken (Link fail links) words kind is f g = absurd is
not_taken (Said said) words kind is f g = absurd is
