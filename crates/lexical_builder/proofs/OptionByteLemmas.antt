-- A lemma on a byte as an option.
use Rattle.lexical_builder.proofs.Common.{ℕ, ◌≡◌, arith, nat_tests}
use Rattle.lexical_builder.specs.OptionByte.{byte_of_option, option_of_byte}

-- The byte of the option of a byte is that byte.
pub byte_of_option_back : (byte : ℕ) → byte_of_option (option_of_byte byte) ≡ byte
byte_of_option_back byte = grind (arith, nat_tests)
