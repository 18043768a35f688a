-- What the variants of `KeyName` are.
use Rattle.std.specs.Option.{option_copied}
use Rattle.name_table.specs.NodeKeys.{Key, key_of}
use Rattle.name_table.specs.declared.node_keys.KeyName.{KeyName}
use Rattle.name_table.specs.declared.node_keys.KeyName.TheVariants.{Written, Named}

abbrev pub key_in : KeyName → Key
key_in (Written name) = record { head = name.head.now; tail = option_copied name.tail }
key_in (Named node) = key_of node.value
