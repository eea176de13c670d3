-- Laws of the tables of all axes.
mod EntryLaws
