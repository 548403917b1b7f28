mod Tests
mod ShortNumbers
mod DayNumbers
mod StampsRead
mod Printed
