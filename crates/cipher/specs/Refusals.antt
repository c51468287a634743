-- The number of each refusal of a cipher, and what is returned with it.
use Rattle.refusal.specs.declared.Refusal.{Refusal}
use Rattle.refusal.specs.Refused.{refused_with, refused_with_both}
use Rattle.cipher.specs.declared.fault.CipherFault.{CipherFault}
use Rattle.cipher.specs.declared.fault.CipherFault.TheVariants.{NotValue, NoCard, UnlawfulKey}

abbrev pub refusal_of : CipherFault → Refusal
refusal_of (NotValue place value) = refused_with_both 5 place value
refusal_of (NoCard card) = refused_with 14 card
refusal_of (UnlawfulKey key) = refused_with 16 key
