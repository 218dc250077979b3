mod Forgotten
mod Origins
mod Slots
mod Told
