mod Leaves
mod Staying
mod Sent
mod Lengthened
mod AtHand
